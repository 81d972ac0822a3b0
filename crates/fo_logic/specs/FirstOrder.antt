-- First-order logic over a theory as plain data: what its rules and links leave to be shown, and along which pairs.
use Rattle.std.specs.Prelude.{ℕ, suc, List, [], ◌∷◌, map, Option, Some, None, Result, Ok, Err}
use Rattle.heap_formula.specs.Meaning.{Stages}
use Rattle.heap_formula.specs.Words.{Each}
use Rattle.fo_formula.specs.declared.atoms.FoAtom.{FoAtom}
use Rattle.fo_formula.specs.declared.atoms.FoAtom.TheVariants.{Equation, Predicate}
use Rattle.fo_formula.specs.declared.nodes.FoReason.{FoReason}
use Rattle.fo_formula.specs.declared.nodes.FoReason.TheVariants.{Rule, Link}
use Rattle.fo_formula.specs.declared.sequents.FoSequent.{FoSequent}
use Rattle.fo_formula.specs.declared.theory.FoTheory.{FoTheory}
use Rattle.fo_formula.specs.Shapes.{HasConstant, IsOpenSequent}
use Rattle.fo_formula.specs.Validity.{HoldsAt}
use Rattle.fo_formula.specs.declared.table.faults.FoFault.{FoFault}
use Rattle.fo_formula.specs.declared.table.faults.FoFault.TheVariants.{PremiseCount, PremiseDiffers, NoSuchNode}
use Rattle.fo_formula.specs.declared.table.premises.FoPremise.{FoPremise}
use Rattle.fo_formula.specs.Answers.{Answer}
use Rattle.fo_formula.specs.LinkTable.{link_fault, link_premise}
use Rattle.fo_formula.specs.Small.{IsSmallSequent, IsSmallDefinition}
use Rattle.fo_formula.specs.Soundness.{HasOpenReason}
use Rattle.fo_formula.specs.Table.{rule_answer}
use Rattle.fo_formula.specs.Tests.{same_sequent}
use Rattle.trace_pairs.specs.Graph.{Pair}
use Rattle.proof_graph.specs.Traces.{trace_pairs_of}
use Rattle.logics.specs.declared.premises.Subgoal.{Subgoal}
use Rattle.logics.specs.Logics.{LogicValue}

-- the places of the predicate atoms of a list that begins at place k
abbrev pub predicate_places : ℕ → List FoAtom → List ℕ
predicate_places k [] = []
predicate_places k (Equation l r ∷ xs) = predicate_places (suc k) xs
predicate_places k (Predicate p ts ∷ xs) = k ∷ predicate_places (suc k) xs

-- the places of the predicate atoms on the left
abbrev pub positions_of : FoSequent → List ℕ
positions_of s = predicate_places 0 s.left

-- the premise, with its pairs as the automata have them
abbrev pub traced : FoPremise → Subgoal FoSequent
traced p = record { judgement = p.sequent; pairs = trace_pairs_of p.pairs }

abbrev pub traced_answer : Answer → Result (List (Subgoal FoSequent)) FoFault
traced_answer (Ok ps) = Ok (map traced ps)
traced_answer (Err f) = Err f

abbrev pub pairs_unless : Option FoFault → FoPremise → Result (List Pair) FoFault
pairs_unless None premise = Ok (trace_pairs_of premise.pairs)
pairs_unless (Some f) premise = Err f

-- the premises of a rule; a link is none
abbrev pub rule_premises : FoTheory → FoSequent → FoReason → Result (List (Subgoal FoSequent)) FoFault
rule_premises t s (Rule rule) = traced_answer (rule_answer t s rule)
rule_premises t s (Link link) = Err NoSuchNode

-- the pairs to the companion of a link; a rule has none
abbrev pub companion_pairs : FoSequent → FoReason → FoSequent → Result (List Pair) FoFault
companion_pairs bud (Rule rule) companion = Err NoSuchNode
companion_pairs bud (Link link) companion = pairs_unless (link_fault bud companion link) (link_premise companion link)

-- the node that a link names
abbrev pub target_of : FoReason → Option ℕ
target_of (Rule rule) = None
target_of (Link link) = Some link.to

abbrev pub first_order : FoTheory → LogicValue FoSequent FoReason FoFault
first_order t = record {
  positions = positions_of;
  same = same_sequent;
  target = target_of;
  premises = rule_premises t;
  pairs_back = companion_pairs;
  faults = record { no_such_node = NoSuchNode; premise_count = PremiseCount; premise_differs = PremiseDiffers };
}

-- a small sequent of terms over the constructors, of a theory with a first constructor without arguments and small
-- definitions
pub record MayOccur (t : FoTheory) (s : FoSequent) : Type 0 where
  pub constant : HasConstant t
  pub definitions : Each IsSmallDefinition t.definitions
  pub small : IsSmallSequent s
  pub terms : IsOpenSequent t.constructors s

-- the terms of the reason are over the constructors
abbrev pub IsGiven : FoTheory → FoSequent → FoReason → Type 0
IsGiven t s r = HasOpenReason t.constructors r

-- the sequent holds at the stages
abbrev pub Holds : FoTheory → Stages → FoSequent → Type 0
Holds t stages s = HoldsAt t stages s
