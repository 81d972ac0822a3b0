-- What is within some limits is within wider ones.
use Rattle.std.proofs.Common.{◌≡◌, ℕ, ◌≤◌, true, List, length, arith}
use Rattle.std.specs.Prelude.{nat_le}
use Rattle.std.proofs.lemmas.Bool.{and_from, le-leb}
use Rattle.cyc_basics.specs.declared.limits.Limits.{Limits}
use Rattle.cyc_basics.specs.Limits.{AreWithin}
use Rattle.heap_formula.specs.declared.commands.Command.{Command}
use Rattle.heap_formula.specs.declared.commands.Command.TheVariants as commands
use Rattle.heap_formula.specs.declared.judgements.Judgement.{Judgement}
use Rattle.heap_formula.specs.Definitions.{Definition}
use Rattle.heap_formula.specs.Symbolic.{SymbolicHeap}
use Rattle.heap_formula.specs.Words.{Each}
use Rattle.heap_formula.proofs.AllMembers.{each_imply}
use Rattle.rule_table.specs.Answer.{heaps_of}
use Rattle.rule_book.specs.Limits.{IsHeapWithin, IsJudgementWithin, IsCaseWithin, IsDefinitionWithin}
use Rattle.rule_book.specs.Limits.{IsCommandWithin, AreEndsWithin}
use Rattle.rule_book.proofs.Heaps.{small}
use Rattle.heap_syntax.specs.declared.version.Version.{Version}
use Rattle.heap_syntax.specs.declared.version.Version.TheVariants.{One, Two, Three}
use Rattle.heap_syntax.specs.LineGrammar.{has_free_branches, has_ends}
use Rattle.proof_file.specs.Upgrades.{upgraded}
use Rattle.formula_reader.specs.Within.{IsCommandOf}

module _ (least most : Limits) (wider : AreWithin least most) where
  module _ (ds : List Definition) where
    pub heap_raised : (a : SymbolicHeap) → IsHeapWithin least ds a → IsHeapWithin most ds a
    heap_raised a w =
        let s = small least ds a w in
        let pures = s.pures in
        let spatials = s.spatials in
        let more_pures = wider.pure in
        let more_spatials = wider.spatial in
        record {
          short = and_from (nat_le (length a.pure) most.pure) (nat_le (length a.spatial) most.spatial)
              (le-leb (length a.pure) most.pure (omega arith)) (le-leb (length a.spatial) most.spatial (omega arith));
          numbers = w.numbers;
          known = w.known;
          fields = w.fields;
        }

    pub judgement_raised : (count : ℕ) (j : Judgement) → IsJudgementWithin least ds count j
        → IsJudgementWithin most ds count j
    judgement_raised count j w = record {
      heaps = each_imply (IsHeapWithin least ds) (IsHeapWithin most ds) heap_raised (heaps_of j) w.heaps;
      universal = w.universal;
      form = w.form;
    }

    case_raised : (arity : ℕ) (c : SymbolicHeap) → IsCaseWithin least ds arity c → IsCaseWithin most ds arity c
    case_raised arity c w =
        let locals = w.locals in
        let more = wider.locals in
        record { heap = heap_raised c w.heap; parameters = w.parameters; locals = omega arith }

    definition_raised : (d : Definition) → IsDefinitionWithin least ds d → IsDefinitionWithin most ds d
    definition_raised d w =
        let arity = w.arity in
        let few = w.few in
        let more_arguments = wider.arguments in
        let more_cases = wider.cases in
        record {
          arity = omega arith;
          some_case = w.some_case;
          few = omega arith;
          cases = each_imply (IsCaseWithin least ds d.arity) (IsCaseWithin most ds d.arity) (case_raised d.arity)
              d.cases w.cases;
        }

    pub definitions_raised : (xs : List Definition) → Each (IsDefinitionWithin least ds) xs
        → Each (IsDefinitionWithin most ds) xs
    definitions_raised xs = each_imply (IsDefinitionWithin least ds) (IsDefinitionWithin most ds) definition_raised xs

  free_raised : (version : Version) → has_free_branches version ≡ true → has_free_branches (upgraded version) ≡ true
  free_raised One e = cc
  free_raised Two e = e
  free_raised Three e = e

  ends_raised : (version : Version) → has_ends version ≡ true → has_ends (upgraded version) ≡ true
  ends_raised One e = cc
  ends_raised Two e = e
  ends_raised Three e = e

  -- the upgraded version has the commands of the version
  command_raised : (version : Version) (c : Command) → IsCommandOf version least c
      → IsCommandOf (upgraded version) most c
  command_raised version (commands.Assign x t) w = tt
  command_raised version (commands.Load x t k) w = let more = wider.arguments in omega arith
  command_raised version (commands.Store t k u) w = let more = wider.arguments in omega arith
  command_raised version (commands.New x k) w = let more = wider.arguments in omega arith
  command_raised version (commands.Free t) w = tt
  command_raised version (commands.IfEq t u j) w = tt
  command_raised version (commands.IfNeq t u j) w = tt
  command_raised version (commands.IfAny j) w = free_raised version w
  command_raised version (commands.Goto j) w = tt
  command_raised version commands.Stop w = tt
  command_raised version (commands.Ends bs) w = ends_raised version w

  pub commands_raised : (version : Version) (cs : List Command) → Each (IsCommandOf version least) cs
      → Each (IsCommandOf (upgraded version) most) cs
  commands_raised version cs = each_imply (IsCommandOf version least) (IsCommandOf (upgraded version) most)
      (command_raised version) cs

  -- the ends of a program
  pub ends_within_raised : (ds : List Definition) (cs : List Command) → AreEndsWithin least ds cs
      → AreEndsWithin most ds cs
  ends_within_raised ds cs = each_imply (IsCommandWithin least ds) (IsCommandWithin most ds) (one ds) cs
    where
      one : (ds : List Definition) (c : Command) → IsCommandWithin least ds c → IsCommandWithin most ds c
      one ds (commands.Ends bs) w = (
        each_imply (IsHeapWithin least ds) (IsHeapWithin most ds) (heap_raised ds) bs w.0,
        w.1,
        w.2,
      )
      one ds (commands.Assign x t) w = tt
      one ds (commands.Load x t k) w = tt
      one ds (commands.Store t k u) w = tt
      one ds (commands.New x k) w = tt
      one ds (commands.Free t) w = tt
      one ds (commands.IfEq t u j) w = tt
      one ds (commands.IfNeq t u j) w = tt
      one ds (commands.IfAny j) w = tt
      one ds (commands.Goto j) w = tt
      one ds commands.Stop w = tt
