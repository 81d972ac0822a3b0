-- The tree of a problem's claim with a run that passes the tests has a text and no flaw.
use Rattle.std.proofs.Common.{◌≡◌, ℕ, ◌<◌, ◌≤◌, ◌^◌, true, List, [], length, None, refl, sym, subst, arith}
use Rattle.std.specs.Prelude.{◌&&◌}
use Rattle.std.specs.List.{list_all}
use Rattle.cyc_basics.specs.Limits.{AreWithin}
use Rattle.heap_formula.specs.declared.commands.Command.{Command}
use Rattle.heap_formula.specs.declared.judgements.Judgement.{Judgement}
use Rattle.heap_formula.specs.declared.judgements.Judgement.TheVariants.{Term as Halting}
use Rattle.heap_formula.specs.Definitions.{Definition}
use Rattle.heap_formula.specs.Symbolic.{SymbolicHeap}
use Rattle.heap_formula.specs.Cells.{Cells, IsHeap}
use Rattle.cyc_basics.specs.declared.limits.Limits.{Limits}
use Rattle.heap_formula.specs.Words.{Each}
use Rattle.goto_lang.specs.Lines.{IsProgram}
use Rattle.rule_book.specs.Limits.{IsJudgementWithin, IsDefinitionWithin, AreEndsWithin}
use Rattle.general_models.specs.declared.runs.picks.Pick.{Pick}
use Rattle.cyc_lex.proofs.BoolParts.{and-parts}
use Rattle.heap_syntax.specs.declared.version.Version.{Version}
use Rattle.heap_syntax.specs.declared.version.Version.TheVariants as formats
use Rattle.proof_file.specs.Upgrades.{upgraded}
use Rattle.heap_reader.specs.Flaws.{or_later}
use Rattle.heap_syntax.specs.DefinitionGrammar.{definitions}
use Rattle.proof_file.specs.Flaws.{judgement_flaw}
use Rattle.proof_file.specs.Readable.{are_universal_commands}
use Rattle.proof_file.specs.Written.{judgement_tree}
use Rattle.formula_reader.specs.declared.problem.Problem.{Problem}
use Rattle.formula_reader.proofs.Lists.{none_later}
use Rattle.formula_reader.specs.Within.{HaveFreeNames, HaveOwnNames, IsCommandOf}
use Rattle.formula_reader.proofs.Names.{few_parameters, heads_of}
use Rattle.formula_reader.proofs.Heaps.{heap_fits}
use Rattle.formula_reader.proofs.Judgements.{judgement_flawless}
use Rattle.formula_reader.proofs.ProgramLines.{program_fits, lines_long, commands_universal}
use Rattle.formula_reader.proofs.ProgramEnds.{ends_fit}
use Rattle.formula_reader.proofs.DefinitionTrees.{definitions_fit}
use Rattle.formula_reader.proofs.FileTrees.{file_flawless}
use Rattle.formula_reader.proofs.Raised.{judgement_raised, definitions_raised, commands_raised}
use Rattle.formula_reader.proofs.Raised.{ends_within_raised}
use Rattle.formula_reader.proofs.Within.{problem_keeps}
use Rattle.model_file.specs.declared.version.ModelVersion.{ModelVersion}
use Rattle.model_file.specs.Versions.{format_of, model_limits, version_for}
use Rattle.model_file.proofs.Parts.{eight_fields, limits_fit, within_version}
use Rattle.model_file.specs.Grammar.{state}
use Rattle.model_file.specs.Flaws.{stack_flaw, cells_flaw}
use Rattle.model_file.specs.Written.{cells_tree}
use Rattle.run_file.specs.declared.tree.Outcome.{Outcome}
use Rattle.run_file.specs.Grammar.{state_claimed, claim, ending, course, body, run}
use Rattle.run_file.specs.Flaws.{picks_flaw, from_place, first_value, first_cell, first_pick, front_flaw, claim_flaw}
use Rattle.run_file.specs.Flaws.{state_given_flaw, run_flaw}
use Rattle.run_file.specs.Written.{tree_of}
use Rattle.run_file.specs.Limits.{is_short_pick, is_short_outcome, is_short_stack, is_short_heap, is_short_run}
use Rattle.run_file.proofs.Fields as fields

module _ (v : ModelVersion) (ds : List Definition) (cs : List Command) (i : ℕ) (a : SymbolicHeap) (s : List ℕ)
    (h : Cells) (ps : List Pick) (o : Outcome) (proper : IsHeap h)
    (short : is_short_run v s h ps o ≡ true) where
  -- what the tests say
  record Tests : Type 0 where
    pub stack : is_short_stack s ≡ true
    pub heap : is_short_heap (model_limits v) h ≡ true
    pub picks : list_all (is_short_pick (model_limits v)) ps ≡ true
    pub outcome : is_short_outcome v o ≡ true

  tests : Tests
  tests =
      let most = model_limits v in
      let picks_short = list_all (is_short_pick most) ps in
      let whole = and-parts (is_short_stack s && is_short_heap most h && picks_short) (is_short_outcome v o) short in
      let state = and-parts (is_short_stack s && is_short_heap most h) picks_short whole.0 in
      let both = and-parts (is_short_stack s) (is_short_heap most h) state.0 in
      record { stack = both.0; heap = both.1; picks = state.1; outcome = whole.1 }

  module _ (w : Each (IsDefinitionWithin (model_limits v) ds) ds) (program : IsProgram cs)
      (known : Each (IsCommandOf (format_of v) (model_limits v)) cs)
      (ended : AreEndsWithin (model_limits v) ds cs)
      (within : IsJudgementWithin (model_limits v) ds (length cs) (Halting i a)) where
    pub tree_fits : HaveFreeNames ds → run.fits (tree_of v ds cs i a s h ps o)
    unfolding run body claim state_claimed definitions course state ending
    tree_fits free =
        let most = model_limits v in
        let last = within.form.1 in
        let few = program.few_lines in
        let line : i < 10 ^ 9 = omega arith in
        let state = heap_fits most ds free true a within.heaps.0 within.universal in (
          tt,
          (
            tt,
            (
              (
                definitions_fit most (limits_fit v) ds free w,
                (
                  program_fits (format_of v) most cs program known,
                  (ends_fit (format_of v) most ds cs free program ended known, (line, state)),
                ),
              ),
              (
                (fields.stack_fits s tests.stack, fields.heap_fits most h proper tests.heap),
                (fields.picks_fit most ps tests.picks, fields.outcome_fits v o tests.outcome),
              ),
            ),
          ),
        )

    pub tree_flawless : HaveOwnNames ds → length ds ≤ 4096 → run_flaw (tree_of v ds cs i a s h ps o) ≡ None
    tree_flawless own count_few =
        let most = model_limits v in
        let r = tree_of v ds cs i a s h ps o in
        let picks = picks_flaw most (first_pick r) ps in
        let front : front_flaw r ≡ None = file_flawless (format_of v) most refl ds cs [] w program known ended
        tt own count_few (omega arith) in
        let claimed : claim_flaw r ≡ None =
        subst (λ (n : ℕ). judgement_flaw most (heads_of ds ds) n (from_place r)
        (judgement_tree ds (Halting i a)) ≡ None)
        (sym (lines_long 0 cs)) (judgement_flawless most ds (length cs) (eight_fields v) own
        (few_parameters most ds ds w) (Halting i a) within (from_place r)) in
        let given : state_given_flaw r ≡ None = none_later (stack_flaw (first_value r) s)
        (cells_flaw most (first_cell r) (cells_tree h)) (fields.stack_right s tests.stack (first_value r))
        (fields.heap_right most h proper tests.heap (first_cell r)) in
        none_later (front_flaw r) (or_later (claim_flaw r) (or_later (state_given_flaw r) picks)) front
        (none_later (claim_flaw r) (or_later (state_given_flaw r) picks) claimed
        (none_later (state_given_flaw r) picks given (fields.picks_right most (first_pick r) ps tests.picks)))

-- ---- of a problem

-- a run file is one of the version that the problem's is upgraded to
same_format : (version : Version) → upgraded version ≡ format_of (version_for version)
same_format formats.One = refl
same_format formats.Two = refl
same_format formats.Three = refl

-- the version of its run files
abbrev pub run_version : Problem → ModelVersion
run_version p = version_for p.version

-- what they may have
abbrev pub run_limits : Problem → Limits
run_limits p = model_limits (run_version p)

pub wider : (p : Problem) → AreWithin p.defs.most (run_limits p)
wider p = subst (λ (most : Limits). AreWithin most (run_limits p)) (sym p.limit) (within_version p.version)

module _ (p : Problem) (i : ℕ) (a : SymbolicHeap) (goal : p.goal ≡ Halting i a) where
  pub claim_within : IsJudgementWithin (run_limits p) p.defs.list (length p.program) (Halting i a)
  claim_within =
      judgement_raised p.defs.most (run_limits p) (wider p) p.defs.list (length p.program) (Halting i a)
      (subst (λ (g : Judgement). IsJudgementWithin p.defs.most p.defs.list (length p.program) g) goal
      (problem_keeps p).goal)

  pub definitions_within : Each (IsDefinitionWithin (run_limits p) p.defs.list) p.defs.list
  definitions_within = definitions_raised p.defs.most (run_limits p) (wider p) p.defs.list p.defs.list
      (problem_keeps p).definitions

  pub commands_known : Each (IsCommandOf (format_of (run_version p)) (run_limits p)) p.program
  commands_known =
      subst (λ (version : Version). Each (IsCommandOf version (run_limits p)) p.program) (same_format p.version)
      (commands_raised p.defs.most (run_limits p) (wider p) p.version p.program (problem_keeps p).commands)

  pub ends_within : AreEndsWithin (run_limits p) p.defs.list p.program
  ends_within = ends_within_raised p.defs.most (run_limits p) (wider p) p.defs.list p.program (problem_keeps p).ends

module _ (p : Problem) (i : ℕ) (a : SymbolicHeap) (goal : p.goal ≡ Halting i a) (s : List ℕ) (h : Cells)
    (ps : List Pick) (o : Outcome) (proper : IsHeap h) (short : is_short_run (run_version p) s h ps o ≡ true) where
  pub run_fits : run.fits (tree_of (run_version p) p.defs.list p.program i a s h ps o)
  run_fits =
      tree_fits (run_version p) p.defs.list p.program i a s h ps o proper short (definitions_within p i a goal)
      (problem_keeps p).program (commands_known p i a goal) (ends_within p i a goal)
      (claim_within p i a goal) (problem_keeps p).free

  pub run_flawless : run_flaw (tree_of (run_version p) p.defs.list p.program i a s h ps o) ≡ None
  run_flawless =
      tree_flawless (run_version p) p.defs.list p.program i a s h ps o proper short (definitions_within p i a goal)
      (problem_keeps p).program (commands_known p i a goal) (ends_within p i a goal)
      (claim_within p i a goal)
      (problem_keeps p).own (problem_keeps p).few

pub program_universal : (p : Problem) → are_universal_commands p.program ≡ true
program_universal p =
    commands_universal p.version p.defs.most p.program (problem_keeps p).program.universal (problem_keeps p).commands
