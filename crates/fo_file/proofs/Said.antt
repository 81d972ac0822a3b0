-- What a tree without a flaw says is what a reader sees to, and is written as that tree.
use Rattle.std.proofs.Common.{◌≡◌, ℕ, zero, suc, ◌+◌, ◌<◌, ◌≤◌, List, [], ◌∷◌, length, map, Some, None, Result, Ok, Err}
use Rattle.std.proofs.Common.{sym, ap, subst, ◌∙◌, arith}
use Rattle.std.specs.Prelude.{slice_get, IfOk}
use Rattle.std.proofs.lemmas.List.{length-map}
use Rattle.heap_formula.specs.Words.{Each}
use Rattle.heap_reader.specs.Trees.{Heading}
use Rattle.heap_reader.specs.Flaws.{arity_in}
use Rattle.heap_reader.specs.Values.{place_of}
use Rattle.heap_reader.proofs.NoFlaw.{neither}
use Rattle.fo_formula.specs.declared.atoms.FoAtom.{FoAtom}
use Rattle.fo_formula.specs.declared.nodes.FoFile.{FoFile}
use Rattle.fo_formula.specs.Values.{IsConstructor}
use Rattle.fo_logic.specs.Limits as limits
use Rattle.fo_logic.specs.Files.{IsReadNode, IsFoProof}
use Rattle.fo_formula.specs.Small.{IsSmallSequent, IsSmallDefinition}
use Rattle.fo_syntax.specs.Trees.{Atom}
use Rattle.fo_syntax.specs.ProblemTrees.{Constructor, Definition, Sequent, Problem}
use Rattle.fo_syntax.specs.ProblemGrammar.{constructors, problem}
use Rattle.fo_syntax.specs.ProofTrees.{Node, File}
use Rattle.fo_syntax.specs.ProofGrammar.{node, file}
use Rattle.fo_file.specs.Spans.{behind_theory}
use Rattle.fo_file.specs.Flaws.{constructor_heads, predicate_heads, constructors_flaw, definitions_flaw, theory_flaw}
use Rattle.fo_file.specs.Flaws.{sequent_flaw, nodes_flaw, file_flaw, problem_flaw}
use Rattle.fo_file.proofs.Parsed.{file_is, problem_is}
use Rattle.fo_file.specs.declared.values.problem.FoProblem.{FoProblem}
use Rattle.fo_file.specs.Values.{constructor_value, atom_value, atoms_value, sequent_value, definition_value}
use Rattle.fo_file.specs.Values.{theory_value, node_value, file_value, problem_value}
use Rattle.fo_file.specs.Known.{IsKnownNode, IsKnownFile, IsKnownProblem}
use Rattle.fo_file.specs.Written.{constructor_name_in, predicate_name_in, file_tree}
use Rattle.fo_file.proofs.Names.{heading_name, heading_arity, name-there, arity-there}
use Rattle.fo_file.proofs.TreesAgain.{AreNamed, file-again, problem-again}
use Rattle.fo_file.specs.Reading.{said_file, said_problem, IsWritable, IsWritableProblem}
use Rattle.fo_file.specs.Questions.{IsFoQuestion}
use Rattle.fo_file.proofs.Fitted.{nodes-fit, some-node, file-parts, problem-parts}
use Rattle.fo_file.proofs.Flawless.{HasFewArguments}
use Rattle.fo_file.proofs.FlawlessParts.{first-constant, few-heads, sequent-known, nodes-known, theory-known}
use Rattle.fo_file.proofs.FlawlessParts.{IsTheoryWithin, IsDefinitionWithin, IsSequentWithin, IsNodeWithin}
use Rattle.fo_file.proofs.ArgumentTerms.{file-of-terms, problem-of-terms}
use Rattle.fo_file.proofs.Open.{sequent-size, open-sequent, open-reason}
use Rattle.fo_file.proofs.Outside.{sequent-outside}
use Rattle.fo_file.proofs.Within.{arity-placed, definition-said, sequent-said}
use Rattle.heap_formula.proofs.AllMembers.{each_imply, each_made, each_both}

-- ---- theories

constructor-at : (cs : List Constructor) (p : ℕ) (name : List ℕ)
    → slice_get (map heading_name (constructor_heads cs)) p ≡ Some name
    → constructor_name_in (slice_get (map constructor_value cs) p) ≡ name
constructor-at [] p name e = absurd cc
constructor-at (c ∷ cs) zero name e = let same : c.name ≡ name = cc in same
constructor-at (c ∷ cs) (suc p) name e = constructor-at cs p name e

predicate-at : (hs ps : List Heading) (ds : List Definition) (p : ℕ) (name : List ℕ)
    → slice_get (map heading_name (predicate_heads ds)) p ≡ Some name
    → predicate_name_in (slice_get (map (definition_value hs ps) ds) p) ≡ name
predicate-at hs ps [] p name e = absurd cc
predicate-at hs ps (d ∷ ds) zero name e = let same : d.name ≡ name = cc in same
predicate-at hs ps (d ∷ ds) (suc p) name e = predicate-at hs ps ds p name e

named : (cs : List Constructor) (ds : List Definition)
    → AreNamed (constructor_heads cs) (predicate_heads ds) (theory_value (constructor_heads cs) (predicate_heads ds)
    cs ds)
named cs ds = record {
  constructors = λ name n e. constructor-at cs (place_of (constructor_heads cs) name) name
      (name-there (constructor_heads cs) name n e);
  predicates = λ name n e. predicate-at (constructor_heads cs) (predicate_heads ds) ds
      (place_of (predicate_heads ds) name) name (name-there (predicate_heads ds) name n e);
}

arguments-at : (cs : List Constructor) (p n : ℕ) → slice_get (map heading_arity (constructor_heads cs)) p ≡ Some n
    → IsConstructor (map constructor_value cs) p n
arguments-at [] p n e = absurd cc
arguments-at (c ∷ cs) zero n e = e
arguments-at (c ∷ cs) (suc p) n e = arguments-at cs p n e

placed : (cs : List Constructor) (name : List ℕ) (n : ℕ) → arity_in (constructor_heads cs) name ≡ Some n
    → IsConstructor (map constructor_value cs) (place_of (constructor_heads cs) name) n
placed cs name n e = arguments-at cs (place_of (constructor_heads cs) name) n
    (arity-there (constructor_heads cs) name n e)

constant : (cs : List Constructor) → constructors.fits cs → constructors_flaw cs ≡ None
    → IsConstructor (map constructor_value cs) 0 0
unfolding constructors
constant [] f e = let some = f.0 in absurd (omega arith)
constant (c ∷ cs) f e = ap (λ (n : ℕ). Some n) (first-constant c cs e)

small-definitions : (cs : List Constructor) (ds : List Definition) → IsTheoryWithin cs ds
    → Each IsSmallDefinition (map (definition_value (constructor_heads cs) (predicate_heads ds)) ds)
small-definitions cs ds within =
    let hs = constructor_heads cs in
    let ps = predicate_heads ds in
    each_made (definition_value hs ps) (IsDefinitionWithin hs (few-heads cs within.few) ps) IsSmallDefinition (λ d h.
    let count = h.cases in
    let size = length-map d.cases (atoms_value hs ps) in
    record {
      cases = omega arith;
      atoms = each_made (atoms_value hs ps) (λ (xs : List Atom). length xs ≤ 16) (λ (c : List FoAtom). length c ≤ 16)
          (λ xs l. let same = length-map xs (atom_value hs ps) in omega arith) d.cases h.atoms;
    }) ds within.definitions

-- ---- sequents and nodes

small-sequent : (cs ps : List Heading) (few : Each HasFewArguments cs) (s : Sequent) → IsSequentWithin cs few ps s
    → IsSmallSequent (sequent_value cs ps s)
small-sequent cs ps few s within =
    let left = within.left in
    let right = within.right in
    let terms = within.terms in
    let lefts = length-map s.left (atom_value cs ps) in
    let rights = length-map s.right (atom_value cs ps) in
    let size = sequent-size cs ps s within.known in
    record { left = omega arith; right = omega arith; size = omega arith }

read-node : (cs : List Constructor) (ps : List Heading) (few : Each HasFewArguments (constructor_heads cs)) (n : Node)
    → node.fits n → IsNodeWithin (constructor_heads cs) few ps n
    → IsReadNode (map constructor_value cs) (node_value (constructor_heads cs) ps n)
unfolding node
read-node cs ps few n fits within =
    let hs = constructor_heads cs in record {
      small = small-sequent hs ps few n.sequent within.sequent;
      sequent = open-sequent hs (map constructor_value cs) (placed cs) ps n.sequent fits.1.0 within.sequent.known;
      reason = open-reason hs (map constructor_value cs) (placed cs) ps n.reason fits.1.1.0 within.reason;
    }

-- ---- proofs

record IsFileWithin (f : File) : Type 0 where
  theory : IsTheoryWithin f.constructors f.definitions
  nodes : Each (IsNodeWithin (constructor_heads f.constructors) (few-heads f.constructors theory.few)
      (predicate_heads f.definitions)) f.nodes
  count : length f.nodes ≤ 20000

file-within : (f : File) → file.fits f → file_flaw f ≡ None → IsFileWithin f
file-within f fits e =
    let is = file_is f fits in
    let cs = constructor_heads f.constructors in
    let ps = predicate_heads f.definitions in
    let start = behind_theory f.constructors f.definitions in
    let both = neither (theory_flaw f.constructors f.definitions) (nodes_flaw cs ps start f.nodes) e in
    let theory = theory-known f.constructors f.definitions is.0 both.0 in
    let nodes = nodes-known cs (few-heads f.constructors theory.few) ps start f.nodes is.1 both.1 in
    record { theory = theory; nodes = nodes.0; count = nodes.1 }

pub record IsKnownText (cs ps : List Heading) (Known : Type 0) : Type 0 where
  pub constructors : length cs < 65536
  pub predicates : length ps < 65536
  pub known : Known

-- the names of a text without a flaw are known, and few
pub file-known : (f : File) → file.fits f → file_flaw f ≡ None
    → IsKnownText (constructor_heads f.constructors) (predicate_heads f.definitions)
    (IsKnownFile (constructor_heads f.constructors) (predicate_heads f.definitions) f)
file-known f fits e =
    let within = file-within f fits e in
    let cs = constructor_heads f.constructors in
    let ps = predicate_heads f.definitions in
    let constructors = within.theory.constructors in
    let predicates = within.theory.predicates in
    let nodes = each_imply (IsNodeWithin cs (few-heads f.constructors within.theory.few) ps) (IsKnownNode cs ps)
    (λ n h. (h.sequent.known, h.reason)) f.nodes within.nodes in
    record { constructors = omega arith; predicates = omega arith; known = (within.theory.known, nodes) }

-- it says what its reader sees to
pub said-proof : (f : File) → file.fits f → file_flaw f ≡ None → IsFoProof (said_file f)
said-proof f fits e =
    let within = file-within f fits e in
    let parts = file-parts f fits in
    let hs = constructor_heads f.constructors in
    let ps = predicate_heads f.definitions in
    let few = few-heads f.constructors within.theory.few in
    let some = some-node f.nodes parts.nodes in
    let count = within.count in
    let size = length-map f.nodes (node_value hs ps) in
    let theory = neither (theory_flaw f.constructors f.definitions)
    (nodes_flaw hs ps (behind_theory f.constructors f.definitions) f.nodes) e in
    record {
      some = omega arith;
      few = omega arith;
      constant = constant f.constructors parts.constructors
          (neither (constructors_flaw f.constructors) (definitions_flaw f.constructors f.definitions) theory.0).0;
      definitions = small-definitions f.constructors f.definitions within.theory;
      nodes = each_made (node_value hs ps) (λ n. node.fits n × IsNodeWithin hs few ps n)
          (IsReadNode (map constructor_value f.constructors)) (λ n h. read-node f.constructors ps few n h.0 h.1) f.nodes
          (each_both node.fits (IsNodeWithin hs few ps) f.nodes (nodes-fit f.nodes parts.nodes) within.nodes);
    }

-- and is written as that tree
pub said-written : (f : File) → file.fits f → file_flaw f ≡ None → file_tree (said_file f) ≡ f
said-written f fits e =
    file-again (constructor_heads f.constructors) (predicate_heads f.definitions) f (named f.constructors f.definitions)
    (file-known f fits e).known

pub said-writable : (f : File) → file.fits f → file_flaw f ≡ None → IsWritable (said_file f)
said-writable f fits e =
    let same = said-written f fits e in record {
      fits = subst (λ (t : File). file.fits t) (sym same) fits;
      flawless = ap file_flaw same ∙ e;
      terms = file-of-terms (constructor_heads f.constructors) (predicate_heads f.definitions) f
          (file-known f fits e).known;
    }

-- ---- problems

record IsProblemWithin (p : Problem) : Type 0 where
  theory : IsTheoryWithin p.constructors p.definitions
  goal : IsSequentWithin (constructor_heads p.constructors) (few-heads p.constructors theory.few)
      (predicate_heads p.definitions) p.goal

problem-within : (p : Problem) → problem.fits p → problem_flaw p ≡ None → IsProblemWithin p
problem-within p fits e =
    let is = problem_is p fits in
    let cs = constructor_heads p.constructors in
    let ps = predicate_heads p.definitions in
    let start = behind_theory p.constructors p.definitions in
    let both = neither (theory_flaw p.constructors p.definitions) (sequent_flaw cs ps (start + 1) p.goal) e in
    let theory = theory-known p.constructors p.definitions is.0 both.0 in
    record {
      theory = theory;
      goal = sequent-known cs (few-heads p.constructors theory.few) ps (start + 1)
          p.goal is.1 both.1;
    }

pub problem-known : (p : Problem) → problem.fits p → problem_flaw p ≡ None
    → IsKnownText (constructor_heads p.constructors) (predicate_heads p.definitions)
    (IsKnownProblem (constructor_heads p.constructors) (predicate_heads p.definitions) p)
problem-known p fits e =
    let within = problem-within p fits e in
    let constructors = within.theory.constructors in
    let predicates = within.theory.predicates in
    record { constructors = omega arith; predicates = omega arith; known = (within.theory.known, within.goal.known) }

pub said-writable-problem : (p : Problem) → problem.fits p → problem_flaw p ≡ None → IsWritableProblem (said_problem p)
said-writable-problem p fits e =
    let cs = constructor_heads p.constructors in
    let ps = predicate_heads p.definitions in
    let known = (problem-known p fits e).known in
    let same = problem-again cs ps p (named p.constructors p.definitions) known in record {
      terms = problem-of-terms cs ps p known;
      fits = subst (λ (t : Problem). problem.fits t) (sym same) fits;
      flawless = ap problem_flaw same ∙ e;
    }

-- the definitions that a problem says are within the limits
definitions-within : (cs : List Constructor) (ds : List Definition) → IsTheoryWithin cs ds
    → Each (limits.IsDefinitionWithin (theory_value (constructor_heads cs) (predicate_heads ds) cs ds))
    (map (definition_value (constructor_heads cs) (predicate_heads ds)) ds)
definitions-within cs ds within =
    let hs = constructor_heads cs in
    let ps = predicate_heads ds in
    let t = theory_value hs ps cs ds in
    each_made (definition_value hs ps) (IsDefinitionWithin hs (few-heads cs within.few) ps)
    (limits.IsDefinitionWithin t) (λ d h. definition-said hs ps t (arity-placed hs ds) (placed cs) d h.known)
    ds within.definitions

-- and so is its goal
goal-within : (p : Problem) → problem.fits p → problem_flaw p ≡ None
    → limits.IsSequentWithin (said_problem p).theory (said_problem p).goal
goal-within p fits e =
    let within = problem-within p fits e in
    let parts = problem-parts p fits in
    let hs = constructor_heads p.constructors in
    let ps = predicate_heads p.definitions in
    let start = behind_theory p.constructors p.definitions in
    let flaws = neither (theory_flaw p.constructors p.definitions) (sequent_flaw hs ps (start + 1) p.goal) e in
    let outside = sequent-outside hs ps (start + 1) p.goal (problem_is p fits).1 parts.goal flaws.1 in (
      small-sequent hs ps (few-heads p.constructors within.theory.few) p.goal within.goal,
      sequent-said hs ps (said_problem p).theory (arity-placed hs p.definitions) (placed p.constructors)
          p.goal within.goal.known outside.0 outside.1,
    )

pub said-question : (p : Problem) → problem.fits p → problem_flaw p ≡ None → IsFoQuestion (said_problem p)
said-question p fits e =
    let within = problem-within p fits e in
    let hs = constructor_heads p.constructors in
    let ps = predicate_heads p.definitions in
    let flaws = neither (theory_flaw p.constructors p.definitions)
    (sequent_flaw hs ps (behind_theory p.constructors p.definitions + 1) p.goal) e in
    let theory = neither (constructors_flaw p.constructors) (definitions_flaw p.constructors p.definitions) flaws.0 in
    record {
      theory = record {
        constant = constant p.constructors (problem-parts p fits).constructors theory.0;
        small = small-definitions p.constructors p.definitions within.theory;
        definitions = definitions-within p.constructors p.definitions within.theory;
      };
      goal = goal-within p fits e;
    }

-- ---- what is made of trees

-- what holds of the proof that a tree says holds of what is made of it by its names
pub made-file : {E : Type 0} (P : FoFile → Type 0) (cs ps : List Heading) (f : File) (r : Result FoFile E)
    → cs ≡ constructor_heads f.constructors → ps ≡ predicate_heads f.definitions → P (said_file f)
    → IfOk r (λ v. v ≡ file_value cs ps f) → IfOk r P
made-file P cs ps f (Ok v) same also h e = subst P (sym (e ∙ (λ i. file_value (same i) (also i) f))) h
made-file P cs ps f (Err x) same also h e = tt

pub made-problem : {E : Type 0} (P : FoProblem → Type 0) (cs ps : List Heading) (p : Problem) (r : Result FoProblem E)
    → cs ≡ constructor_heads p.constructors → ps ≡ predicate_heads p.definitions → P (said_problem p)
    → IfOk r (λ v. v ≡ problem_value cs ps p) → IfOk r P
made-problem P cs ps p (Ok v) same also h e = subst P (sym (e ∙ (λ i. problem_value (same i) (also i) p))) h
made-problem P cs ps p (Err x) same also h e = tt

-- names that are these are known, and few
pub with-names : (Known : List Heading → List Heading → Type 0) (cs ps hs ks : List Heading) → cs ≡ hs → ps ≡ ks
    → IsKnownText hs ks (Known hs ks) → IsKnownText cs ps (Known cs ps)
with-names Known cs ps hs ks same also k = record {
  constructors = let few = k.constructors in omega (arith, few, ap length same);
  predicates = let few = k.predicates in omega (arith, few, ap length also);
  known = subst (λ (xs : List Heading). Known cs xs) (sym also)
      (subst (λ (xs : List Heading). Known xs ks) (sym same) k.known);
}
