-- The spans count the words of the grammar, so each flaw's number is that of the token at which it stands.
use Rattle.std.proofs.Common.{◌≡◌, ℕ, ◌+◌, Bool, true, false, List, [], ◌∷◌, ◌++◌, length, map, refl, sym, ap, ◌∙◌}
use Rattle.std.proofs.Common.{arith, subst, length-append, true≢false, if◌then◌else◌}
use Rattle.std.proofs.lemmas.List.{length-map}
use Rattle.cyc_grammar.specs.Syntax.{Class, one, seq, is_one}
use Rattle.cyc_grammar.specs.Classes.{the_end}
use Rattle.heap_syntax.specs.declared.version.Version.{Version}
use Rattle.heap_syntax.specs.declared.tree.PureTree.{PureTree}
use Rattle.heap_syntax.specs.Trees.{Cell, Predicate, pure_of}
use Rattle.heap_syntax.specs.Words.{comma, semicolon, bar, turnstile, closing, opening_brace, closing_brace, pred_word}
use Rattle.heap_syntax.specs.Words.{or_word, last_word, free_name}
use Rattle.heap_syntax.specs.Grammar as shared
use Rattle.heap_syntax.specs.Grammar.{fields, arguments}
use Rattle.heap_syntax.specs.declared.lines.tree.OperandTree.{OperandTree}
use Rattle.heap_syntax.specs.declared.lines.tree.OperandTree.TheVariants.{Nil as NilOperand, Variable}
use Rattle.heap_syntax.specs.declared.lines.tree.ChangeTree.{ChangeTree}
use Rattle.heap_syntax.specs.declared.lines.tree.ChangeTree.TheVariants.{New, Assign, Load, Store}
use Rattle.heap_syntax.specs.declared.lines.tree.CommandTree.{CommandTree}
use Rattle.heap_syntax.specs.declared.lines.tree.CommandTree.TheVariants.{Stop, Goto, Free, IfAny, If, StoreAtNil}
use Rattle.heap_syntax.specs.declared.lines.tree.CommandTree.TheVariants.{Change}
use Rattle.heap_syntax.specs.LineTrees.{operand_of, change_of, command_of}
use Rattle.problem_syntax.specs.Trees as named
use Rattle.problem_syntax.specs.Trees.{Named, Nil, Plain, Primed}
use Rattle.problem_syntax.specs.Grammar.{primes, term, terms, behind_address, behind_name, spatial, heap, parameters}
use Rattle.problem_syntax.specs.Grammar.{cases, definition, disjuncts, state, entailment, goal, definitions, lines, ends}
use Rattle.problem_syntax.specs.Grammar.{last_part, body, problem}
use Rattle.heap_reader.specs.Spans.{total, total_or, pure_span, spatial_span, heap_span}
use Rattle.heap_reader.specs.LineSpans.{operand_span, change_span, command_span, line_span}
use Rattle.heap_reader.proofs.SpanLaws.{listed_words, alone, heap_words, heaps_words}
use Rattle.heap_reader.proofs.LineSpanLaws.{lines_words}
use Rattle.heap_formula.specs.Words.{Each}
use Rattle.heap_reader.specs.EndSpans.{end_span}
use Rattle.heap_reader.proofs.EndSpanLaws.{ends_words}
use Rattle.heap_reader.proofs.EndFitting.{HasDisjunct as EndHasDisjunct}
use Rattle.heap_reader.proofs.NumberedEnds.{ends_some}
use Rattle.problem_syntax.specs.Names.{Name, has, firsts, place_of}
use Rattle.problem_syntax.specs.Occurrences.{plain, primed_names}
use Rattle.problem_syntax.specs.Numbering as numbers
use Rattle.problem_syntax.specs.Numbering.{Scope, Case, Antecedent, Disjunct, numbered}
use Rattle.problem_syntax.specs.Numbered as trees
use Rattle.formula_reader.specs.Small.{HasDisjunct}
use Rattle.formula_reader.specs.Problems.{IsOfText}
use Rattle.formula_reader.specs.Spans.{name_span, term_span, variable_span, heaps_span, lines_span, ends_span}
use Rattle.formula_reader.specs.Spans.{parameter_span}
use Rattle.formula_reader.specs.Spans.{parameters_span, definition_span, goal_span, problem_span}

-- ---- lists

total_map : {X Y : Type 0} (span : Y → ℕ) (before : X → ℕ) (f : X → Y) → ((x : X) → span (f x) ≡ before x)
    → (xs : List X) → total span (map f xs) ≡ total before xs
total_map span before f one [] = refl
total_map span before f one (x ∷ xs) = λ i. one x i + total_map span before f one xs i

total_or_map : {X Y : Type 0} (empty : ℕ) (span : Y → ℕ) (before : X → ℕ) (f : X → Y)
    → ((x : X) → span (f x) ≡ before x) → (xs : List X) → total_or empty span (map f xs) ≡ total_or empty before xs
total_or_map empty span before f one [] = refl
total_or_map empty span before f one (x ∷ xs) = total_map span before f one (x ∷ xs)

-- ---- numbers take as many tokens as names

named_span : Named → ℕ
named_span Nil = 2
named_span (Plain s) = 2
named_span (Primed s) = 3

variable_same : (scope : Scope) (n : Name) → term_span (numbers.variable scope n) ≡ name_span n.primed
variable_same (Case parameters locals) n = by (has parameters n)
  where
    by : (b : Bool) → term_span (if b then numbers.universal parameters n else numbers.existential locals n)
        ≡ name_span n.primed
    by true = refl
    by false = refl
variable_same (Antecedent universals) n = refl
variable_same (Disjunct universals existentials) n = by n.primed
  where
    by : (b : Bool) → term_span (if b then numbers.existential existentials n else numbers.universal universals n)
        ≡ name_span n.primed
    by true = refl
    by false = refl

module _ (scope : Scope) where
  term_same : (t : Named) → term_span (numbers.term scope t) ≡ named_span t
  unfolding named_span
  term_same Nil = refl
  term_same (Plain s) = variable_same scope _
  term_same (Primed s) = variable_same scope _

  pure_same : (x : PureTree Named) → pure_span term_span (pure_of (numbers.term scope) x) ≡ pure_span named_span x
  pure_same x = λ i. term_same x.left i + term_same x.right i

  spatial_same : (x : named.Spatial) → spatial_span term_span (numbers.spatial scope x) ≡ spatial_span named_span x
  spatial_same (Cell t ts) = λ i. term_same t i + 1 + total_map term_span named_span (numbers.term scope)
      term_same ts i + 1
  spatial_same (Predicate name ts) = λ i. 2 + total_or_map 1 term_span named_span (numbers.term scope)
      term_same ts i + 1

  heap_same : (h : named.Heap) → heap_span term_span (numbers.heap scope h) ≡ heap_span named_span h
  heap_same h = λ i. total_or_map 2 (pure_span term_span) (pure_span named_span) (pure_of (numbers.term scope))
      pure_same h.pure i + total_or_map 2 (spatial_span term_span) (spatial_span named_span) (numbers.spatial scope)
      spatial_same h.spatial i

-- ---- heaps

primes_words : (b p : Bool) → (primes b).fits p → length ((primes b).words p) + 2 ≡ name_span p
unfolding primes
primes_words true true f = refl
primes_words true false f = refl
primes_words false true f = absurd (true≢false f.0)
primes_words false false f = refl

term_words : (b : Bool) (t : Named) → (term b).fits t → length ((term b).words t) + 1 ≡ named_span t
unfolding term named_span
term_words b Nil f = refl
term_words b (Plain s) f = let p = primes_words b false f.1.1 in omega arith
term_words b (Primed s) f = let p = primes_words b true f.1.1 in omega arith

module _ (b : Bool) where
  fields_words : (ts : List Named) → (fields (terms b)).fits ts
      → length ((fields (terms b)).words ts) ≡ total named_span ts
  unfolding fields
  fields_words ts f = listed_words Nil comma closing (term b) named_span (term_words b) ts f

  arguments_words : (ts : List Named) → (arguments (terms b)).fits ts
      → length ((arguments (terms b)).words ts) ≡ total_or 1 named_span ts
  unfolding arguments
  arguments_words [] f = refl
  arguments_words (t ∷ ts) f = fields_words (t ∷ ts) f.1

  cell_words : (p : Bool) (ts : List Named) → (seq (primes b) (behind_address b)).fits (p, ts)
      → length ((seq (primes b) (behind_address b)).words (p, ts)) ≡ name_span p + total named_span ts
  cell_words p ts f =
      let m = primes_words b p f.0 in
      let r = fields_words ts f.1 in
      let l = length-append ((primes b).words p) ((behind_address b).words ts) in
      omega arith

  spatial_words : (x : named.Spatial) → (spatial b).fits x
      → length ((spatial b).words x) + 1 ≡ spatial_span named_span x
  unfolding spatial behind_name named_span
  spatial_words (Predicate name ts) f = let r = arguments_words ts f.1.1 in omega arith
  spatial_words (Cell Nil ts) f = let r = fields_words ts f.1 in omega arith
  spatial_words (Cell (Plain s) ts) f = let r = cell_words false ts f.1.1 in omega arith
  spatial_words (Cell (Primed s) ts) f = let r = cell_words true ts f.1.1 in omega arith

  heap_counted : (scope : Scope) (h : named.Heap) → (heap b).fits h
      → length ((heap b).words h) + 1 ≡ heap_span term_span (numbers.heap scope h)
  heap_counted scope h f = heap_words (terms b) named_span (term_words b) (spatial b) spatial_words h f
      ∙ sym (heap_same scope h)

  heaps_counted : (c behind : Class (Unit {0})) (each : named.Heap → trees.Heap)
      → ((h : named.Heap) → heap_span term_span (each h) ≡ heap_span named_span h) → (hs : List named.Heap)
      → (shared.heaps c behind (heap b)).fits hs → length ((shared.heaps c behind (heap b)).words hs)
      ≡ heaps_span (map each hs)
  heaps_counted c behind each same hs f =
      heaps_words (terms b) named_span (term_words b) (spatial b) spatial_words c behind hs f
      ∙ sym (total_map (heap_span term_span) (heap_span named_span) each same hs)

-- ---- definitions

parameters_words : (ps : List (List ℕ)) → parameters.fits ps → length (parameters.words ps) ≡ parameters_span ps
unfolding parameters
parameters_words [] f = refl
parameters_words (p ∷ ps) f = listed_words [] comma closing (one free_name) parameter_span (λ s g. refl) (p ∷ ps) f.1

case_same : (ps : List Name) (h : named.Heap) → heap_span term_span (numbers.case ps h) ≡ heap_span named_span h
unfolding numbers.case
case_same ps h = heap_same (Case ps (numbers.locals ps h)) h

definition_words : (d : named.Definition) → definition.fits d
    → length (definition.words d) ≡ definition_span (numbers.definition d)
unfolding definition cases
definition_words d f =
    let ps = numbers.parameter_names d in
    let a = parameters_words d.parameters f.1.1.0 in
    let h = heaps_counted false bar closing_brace (numbers.case ps) (case_same ps) d.cases f.1.1.1 in
    let l = length-append ((shared.heaps bar closing_brace (heap false)).words d.cases) (semicolon.word tt ∷ []) in
    let m = length-append (parameters.words d.parameters)
    (opening_brace.word tt ∷ ((shared.heaps bar closing_brace (heap false)).words d.cases ++ semicolon.word tt
    ∷ [])) in
    omega arith

-- ---- programs

text_span : List ℕ → ℕ
text_span s = 2

module _ (f : List ℕ → ℕ) where
  operand_same : (t : OperandTree (List ℕ)) → operand_span variable_span (operand_of f t) ≡ operand_span text_span t
  unfolding text_span
  operand_same NilOperand = refl
  operand_same (Variable s) = refl

  change_same : (c : ChangeTree (List ℕ)) → change_span variable_span (change_of f c) ≡ change_span text_span c
  change_same (New n) = refl
  change_same (Assign t) = operand_same t
  change_same (Load t n) = ap (λ k. k + 2) (operand_same t)
  change_same (Store n t) = ap (λ k. 2 + k) (operand_same t)

  command_same : (c : CommandTree (List ℕ)) → command_span variable_span (command_of f c) ≡ command_span text_span c
  unfolding text_span
  command_same Stop = refl
  command_same (IfAny n) = refl
  command_same (Goto n) = refl
  command_same (Free t) = ap (λ k. 1 + k) (operand_same t)
  command_same (If t b u n) = λ i. 1 + operand_same t i + operand_same u i + 2
  command_same (StoreAtNil n t) = ap (λ k. 4 + k) (operand_same t)
  command_same (Change v c) = ap (λ k. 2 + k) (change_same c)

line_same : (vs : List Name) (l : named.Line) → line_span variable_span (numbers.line vs l) ≡ line_span text_span l
line_same vs l = ap (λ k. 3 + k) (command_same (λ s. place_of vs (plain s)) l.command)

lines_counted : (version : Version) (vs : List Name) (ls : List named.Line) → (lines version).fits ls
    → length ((lines version).words ls) ≡ lines_span (map (numbers.line vs) ls)
unfolding text_span
lines_counted version vs ls f =
    lines_words (one free_name) text_span (λ s g. refl) version ls f
    ∙ sym (total_map (line_span variable_span) (line_span text_span) (numbers.line vs) (line_same vs) ls)

-- ---- disjuncts

disjunct_same : (us : List Name) (h : named.Heap) → heap_span term_span (numbers.disjunct us h) ≡ heap_span named_span h
unfolding numbers.disjunct
disjunct_same us h = heap_same (Disjunct us (firsts (primed_names h))) h

-- ---- ends

end_same : (us : List Name) (e : named.End) → end_span term_span (numbers.end us e) ≡ end_span named_span e
end_same us e = ap (λ k. 3 + k) (total_map (heap_span term_span) (heap_span named_span) (numbers.disjunct us)
    (disjunct_same us) e.disjuncts)

ends_counted : (version : Version) (us : List Name) (es : List named.End) → (ends version).fits es
    → length ((ends version).words es) ≡ ends_span (map (numbers.end us) es)
ends_counted version us es f =
    ends_words (terms true) named_span (term_words true) (spatial true) (spatial_words true) version es f
    ∙ sym (total_map (end_span term_span) (end_span named_span) (numbers.end us) (end_same us) es)

mapped_some : (us : List Name) (es : List named.End) → Each EndHasDisjunct es
    → Each EndHasDisjunct (map (numbers.end us) es)
mapped_some us [] some = tt
mapped_some us (e ∷ es) some = (
  (let l = length-map e.disjuncts (numbers.disjunct us) in let one = some.0 in omega arith),
  mapped_some us es some.1,
)

-- ---- goals

goal_words : (us : List Name) (g : named.Goal) → goal.fits g → length (goal.words g) + 1 ≡ goal_span (numbers.goal us g)
unfolding goal state entailment disjuncts
goal_words us (named.Entailment h ds) f =
    let a = heap_counted true (Antecedent us) h f.1.0 in
    let d = heaps_counted true or_word semicolon (numbers.disjunct us) (disjunct_same us) ds f.1.1 in
    let l = length-append ((heap true).words h) (turnstile.word tt
    ∷ (shared.heaps or_word semicolon (heap true)).words ds) in
    omega arith
goal_words us (named.From n h) f =
    let a = heap_counted true (Antecedent us) h f.1.1 in
    let l = length-append ((heap true).words h) (semicolon.word tt ∷ []) in
    omega arith

pub some_disjunct : (us : List Name) (g : named.Goal) → goal.fits g → HasDisjunct (numbers.goal us g)
unfolding goal entailment disjuncts shared.listed
some_disjunct us (named.Entailment h ds) f = let l = length-map ds (numbers.disjunct us) in omega (arith, f.1.1.0)
some_disjunct us (named.From n h) f = tt

-- ---- problems

pub problem_words : (p : named.Problem) → problem.fits p → length (problem.words p) ≡ problem_span (numbered p) + 3
unfolding problem body definitions last_part
problem_words p f =
    let ds = alone (is_one pred_word) definition (λ d. definition_span (numbers.definition d))
    definition_words p.definitions f.1.1.0 in
    let ls = lines_counted p.version (numbers.program_variables p) p.lines f.1.1.1.0 in
    let es = ends_counted p.version (numbers.program_variables p) p.ends f.1.1.1.1.0 in
    let g = goal_words (numbers.universals p) p.goal f.1.1.1.1.1 in
    let same = total_map definition_span (λ d. definition_span (numbers.definition d)) numbers.definition (λ d. refl)
    p.definitions in
    let end = last_word.word tt ∷ [] in
    let k = length-append (goal.words p.goal) end in
    let l = length-append (goal.words p.goal ++ end) (semicolon.word tt ∷ []) in
    let behind = (ends p.version).words p.ends ++ last_part.words p.goal in
    let q = length-append ((ends p.version).words p.ends) (last_part.words p.goal) in
    let m = length-append ((lines p.version).words p.lines) behind in
    let n = length-append (definitions.words p.definitions) ((lines p.version).words p.lines ++ behind) in
    let o = length-append (body.words p) (the_end.word tt ∷ []) in
    omega arith

-- a goal of a text has a disjunct
pub problem_some : (p : named.Problem) → problem.fits p → HasDisjunct (numbered p).goal
unfolding problem body last_part
problem_some p f = some_disjunct (numbers.universals p) p.goal f.1.1.1.1.1

-- and so has each end
pub problem_ends_some : (p : named.Problem) → problem.fits p → Each EndHasDisjunct (numbered p).ends
unfolding problem body
problem_ends_some p f =
    mapped_some (numbers.program_variables p) p.ends (ends_some (terms true) (spatial true) p.version p.ends f.1.1.1.1.0)

pub text_ends_some : (p : trees.Problem) → IsOfText p → Each EndHasDisjunct p.ends
text_ends_some p text = subst (λ (q : trees.Problem). Each EndHasDisjunct q.ends) text.2
    (problem_ends_some text.0 text.1)

pub text_some : (p : trees.Problem) → IsOfText p → HasDisjunct p.goal
text_some p text = subst (λ (q : trees.Problem). HasDisjunct q.goal) text.2 (problem_some text.0 text.1)
