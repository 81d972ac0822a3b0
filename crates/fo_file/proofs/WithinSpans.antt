-- A flaw stands at a token of its part.
use Rattle.std.proofs.Common.{ℕ, suc, ◌+◌, ◌<◌, ◌≤◌, List, [], ◌∷◌, length, drop, take, None, arith}
use Rattle.std.specs.Prelude.{nat_eq, nat_lt, nat_le, not, is_some, ◌&&◌, ◌||◌}
use Rattle.cyc_lex.specs.declared.fault.IllFault.TheVariants.{Parameter, Duplicate, Constant}
use Rattle.cyc_lex.specs.declared.fault.What.TheVariants.{Constructors, Predicates, Arguments, Cases, Nodes, Atoms}
use Rattle.cyc_lex.specs.declared.fault.What.TheVariants.{Locals, Terms, Variable as VariableLimit}
use Rattle.heap_formula.specs.Words.{Each}
use Rattle.heap_reader.specs.Trees.{Heading}
use Rattle.heap_reader.specs.Spans.{total, total_or}
use Rattle.heap_reader.specs.Flaws.{Found, ill_if, over_if, or_later, listed_flaw, arity_in, use_flaw}
use Rattle.heap_reader.proofs.WithinSpans.{Before, first_before, over_before, ill_before, later, listed_before}
use Rattle.heap_reader.proofs.WithinSpans.{use_before}
use Rattle.fo_syntax.specs.Trees.{Sign, Variable, Local, Apply, Atom, Equation, Predicate}
use Rattle.fo_syntax.specs.Grammar.{IsTerm, IsApplication}
use Rattle.fo_syntax.specs.Places.{places_of, tokens_in}
use Rattle.fo_syntax.proofs.PlaceLaws.{HaveRoom, places-count, places-room}
use Rattle.fo_syntax.specs.ProblemTrees.{Constructor, Definition, Sequent, Problem}
use Rattle.fo_syntax.specs.ProofTrees.{Entry, Reason, Axiom, Refl, Clash, Decompose, Replace, WeakenLeft, WeakenRight}
use Rattle.fo_syntax.specs.ProofTrees.{Contract, Unfold, Cut, Right, Link, Node, File}
use Rattle.fo_file.specs.declared.walk.flaw.Scope.{Scope}
use Rattle.fo_file.specs.declared.walk.flaw.Scope.TheVariants.{Node as InNode, Case as InCase}
use Rattle.fo_file.specs.AtomSpans.{atom_span, atoms_span, terms_in, total_terms, IsAtom, AreAtoms}
use Rattle.fo_file.specs.Arguments.{numbers, numbers_behind, argument_flaw}
use Rattle.fo_file.specs.AtomFlaws.{variable_flaw, terms_flaw as count_flaw, sign_flaw, signs_flaw, term_flaw}
use Rattle.fo_file.specs.AtomFlaws.{predicate_flaw, atom_flaw, atoms_flaw, side_flaw}
use Rattle.fo_file.proofs.Walks.{length-tail, room-tail, one-term}
use Rattle.fo_file.proofs.Counts.{term_fewer}
use Rattle.fo_file.specs.Parts.{IsDefinition, IsSequent, IsEntry, IsReason, IsNode}
use Rattle.fo_file.specs.Spans.{constructor_span, definition_span, sequent_span, sequent_terms, term_span, entry_span}
use Rattle.fo_file.specs.Spans.{reason_span, node_span, behind_theory, file_end, problem_end}
use Rattle.fo_file.specs.Flaws.{constructor_heads, predicate_heads, arguments_flaw, constant_flaw, constructor_flaw}
use Rattle.fo_file.specs.Flaws.{definition_head_flaw, case_flaw, cases_flaw, definition_flaw, sequent_flaw, terms_flaw}
use Rattle.fo_file.specs.Flaws.{entry_flaw, entries_flaw, reason_flaw, node_flaw, nodes_flaw, constructors_flaw}
use Rattle.fo_file.specs.Flaws.{definitions_flaw, theory_flaw, file_flaw, problem_flaw}

listed : {X : Type 0} (P : X → Type 0) (flaw : ℕ → ℕ → X → Found) (span : X → ℕ)
    → ((n k : ℕ) (x : X) → P x → Before (flaw n k x) (k + span x)) → (n k : ℕ) (xs : List X) → Each P xs
    → Before (listed_flaw flaw span n k xs) (k + total span xs)
listed P flaw span one n k [] h = tt
listed P flaw span one n k (x ∷ xs) h =
    first_before _ _ (k + total span (x ∷ xs)) (later (flaw n k x) (k + span x) (k + total span (x ∷ xs)) (omega arith)
    (one n k x h.0)) (later (listed_flaw flaw span (suc n) (k + span x) xs) (k + span x + total span xs)
    (k + total span (x ∷ xs)) (omega arith) (listed P flaw span one (suc n) (k + span x) xs h.1))

-- ---- terms and atoms

term_some : (t : List Sign) → IsTerm t → 1 ≤ tokens_in t
term_some t is = positive t is (term_fewer t is)
  where
    positive : (u : List Sign) → IsTerm u → length u ≤ tokens_in u → 1 ≤ tokens_in u
    positive [] h g = absurd h
    positive (s ∷ ss) h g = omega (arith, g)

application_some : (t : List Sign) → IsApplication t → 1 ≤ tokens_in t
application_some [] is = absurd is
application_some (Variable n ∷ ss) is = omega arith
application_some (Local n ∷ ss) is = omega arith
application_some (Apply name n ∷ ss) is = term_some (Apply name n ∷ ss) (one-term name n ss is)

variable_before : (scope : Scope) (k n m : ℕ) → k < m → Before (variable_flaw scope k n) m
variable_before InNode k n m h = over_before (nat_lt 65534 n) VariableLimit k m h
variable_before (InCase arity) k n m h = ill_before (nat_le arity n) Parameter k m h

count_before : (m k e : ℕ) → k < e → Before (count_flaw m k) e
count_before m k e h = over_before (nat_le 4096 m) Terms k e h

argument_before : (ns : List ℕ) (k e : ℕ) → k < e → Before (argument_flaw ns k) e
argument_before [] k e h = tt
argument_before (n ∷ ns) k e h = over_before (nat_le 8 n) Arguments k e h

module _ (cs : List Heading) (scope : Scope) where
  sign_before : (m k e : ℕ) (limit : Found) (s : Sign) → k + 1 < e → Before limit e
      → Before (sign_flaw cs scope m k limit s) e
  sign_before m k e limit (Variable n) h l =
      first_before limit _ e l (first_before (count_flaw m k) _ e (count_before m k e (omega arith))
      (variable_before scope (k + 1) n e h))
  sign_before m k e limit (Local n) h l =
      first_before limit _ e l (first_before (count_flaw m k) _ e (count_before m k e (omega arith))
      (over_before (nat_lt 15 n) Locals (k + 1) e h))
  sign_before m k e limit (Apply name n) h l =
      first_before (use_flaw (arity_in cs name) n k) _ e (use_before (arity_in cs name) n k e (omega arith))
      (first_before limit _ e l (count_before m k e (omega arith)))

  signs_before : (ns : List ℕ) (m k e : ℕ) (limit : Found) (ss : List Sign) (ps : List ℕ) → length ss < length ps
      → HaveRoom e ps → Before limit (k + e) → Before (signs_flaw cs scope ns m k limit ss ps) (k + e)
  signs_before ns m k e limit [] ps some room l = tt
  signs_before ns m k e limit (s ∷ ss) [] some room l = tt
  signs_before ns m k e limit (s ∷ ss) (p ∷ []) some room l = absurd (omega (arith, some))
  signs_before ns m k e limit (s ∷ ss) (p ∷ q ∷ ps) some room l =
      let argument = argument_before ns (k + p) (k + e) (omega (arith, room.0)) in
      let here = or_later limit (argument_flaw ns (k + p)) in
      first_before (sign_flaw cs scope m (k + p) here s) _ (k + e)
      (sign_before m (k + p) (k + e) here s (omega (arith, room.0)) (first_before limit _ (k + e) l argument))
      (signs_before (numbers_behind s ns) (m + 1) k e None ss (q ∷ ps) (omega (arith, some)) room.1 tt)

  term_before : (m k : ℕ) (limit : Found) (t : List Sign) → IsTerm t → Before limit (k + tokens_in t)
      → Before (term_flaw cs scope m k limit t) (k + tokens_in t)
  term_before m k limit t is l =
      signs_before [] m k (tokens_in t) limit t (places_of t) (omega (arith, places-count t is)) (places-room t is) l

  module _ (ps : List Heading) where
    predicate_before : (m k : ℕ) (limit : Found) (t : List Sign) → IsApplication t → Before limit (k + tokens_in t)
        → Before (predicate_flaw cs scope ps m k limit t) (k + tokens_in t)
    predicate_before m k limit [] is l = absurd is
    predicate_before m k limit (Variable n ∷ ss) is l = absurd is
    predicate_before m k limit (Local n ∷ ss) is l = absurd is
    predicate_before m k limit (Apply name n ∷ ss) is l =
        let t = Apply name n ∷ ss in
        let one = one-term name n ss is in
        let e = k + tokens_in t in
        let room = places-room t one in
        first_before (use_flaw (arity_in ps name) n k) _ e
        (use_before (arity_in ps name) n k e (omega (arith, term_some t one)))
        (first_before limit _ e l (signs_before (numbers n) m k (tokens_in t) None ss (drop 1 (places_of t))
        (omega (arith, places-count t one, length-tail (places_of t))) (room-tail (tokens_in t) (places_of t) room)
        tt))

    atom_before : (m k : ℕ) (limit : Found) (a : Atom) → IsAtom a → Before limit (k + 1)
        → Before (atom_flaw cs scope ps m k limit a) (k + atom_span a)
    atom_before m k limit (Equation t u) is l =
        let e = k + atom_span (Equation t u) in
        first_before (term_flaw cs scope m k limit t) _ e
        (later (term_flaw cs scope m k limit t) (k + tokens_in t) e (omega arith)
        (term_before m k limit t is.0 (later limit (k + 1) (k + tokens_in t) (omega (arith, term_some t is.0)) l)))
        (later (term_flaw cs scope (m + length t) (k + tokens_in t + 1) None u) (k + tokens_in t + 1 + tokens_in u)
        e (omega arith) (term_before (m + length t) (k + tokens_in t + 1) None u is.1 tt))
    atom_before m k limit (Predicate t) is l =
        later (predicate_flaw cs scope ps m k limit t) (k + tokens_in t) (k + atom_span (Predicate t)) (omega arith)
        (predicate_before m k limit t is (later limit (k + 1) (k + tokens_in t)
        (omega (arith, application_some t is)) l))

    atoms_before : (most n m k : ℕ) (limit : Found) (xs : List Atom) → AreAtoms xs → Before limit (k + 1)
        → Before (atoms_flaw cs scope ps most n m k limit xs) (k + total atom_span xs)
    atoms_before most n m k limit [] are l = tt
    atoms_before most n m k limit (a ∷ more) are l =
        let e = k + total atom_span (a ∷ more) in
        let here = or_later limit (over_if (nat_le most n) Atoms k) in
        let first = atom_flaw cs scope ps m k here a in
        let others = atoms_flaw cs scope ps most (n + 1) (m + terms_in a) (k + atom_span a) None more in
        first_before first others e (later first (k + atom_span a) e (omega arith)
        (atom_before m k here a are.0 (first_before limit _ (k + 1) l
        (over_before (nat_le most n) Atoms k (k + 1) (omega arith)))))
        (later others (k + atom_span a + total atom_span more) e (omega arith)
        (atoms_before most (n + 1) (m + terms_in a) (k + atom_span a) None more are.1 tt))

    side_before : (most m k : ℕ) (limit : Found) (xs : List Atom) → AreAtoms xs → Before limit (k + 1)
        → Before (side_flaw cs scope ps most m k limit xs) (k + atoms_span xs)
    side_before most m k limit [] are l = later limit (k + 1) (k + 2) (omega arith) l
    side_before most m k limit (a ∷ more) are l = atoms_before most 0 m k limit (a ∷ more) are l

-- ---- theories

arguments_before : (k n m : ℕ) → k < m → Before (arguments_flaw k n) m
arguments_before k n m h = over_before (nat_lt 8 n) Arguments k m h

constructor_before : (cs : List Heading) (n k : ℕ) (c : Constructor)
    → Before (constructor_flaw cs n k c) (k + constructor_span c)
constructor_before cs n k c =
    let e = k + 4 in
    let again = is_some (arity_in (take n cs) c.name) in
    let some = nat_eq n 0 && not (nat_eq c.arguments 0) in
    first_before (over_if (nat_le 64 n) Constructors k) _ e (over_before (nat_le 64 n) Constructors k e (omega arith))
    (first_before (ill_if again Duplicate (k + 1)) _ e (ill_before again Duplicate (k + 1) e (omega arith))
    (first_before (constant_flaw n (k + 2) c.arguments) _ e (ill_before some Constant (k + 2) e (omega arith))
    (arguments_before (k + 2) c.arguments e (omega arith))))

module _ (cs ps : List Heading) where
  definition_head_before : (n k m : ℕ) (d : Definition) → k + 3 < m → Before (definition_head_flaw cs ps n k d) m
  definition_head_before n k m d h =
      let again = is_some (arity_in cs d.name) || is_some (arity_in (take n ps) d.name) in
      first_before (over_if (nat_le 4096 n) Predicates k) _ m (over_before (nat_le 4096 n) Predicates k m (omega arith))
      (first_before (ill_if again Duplicate (k + 1)) _ m (ill_before again Duplicate (k + 1) m (omega arith))
      (arguments_before (k + 3) d.arity m h))

  case_before : (arity n k : ℕ) (xs : List Atom) → AreAtoms xs
      → Before (case_flaw cs ps arity n k xs) (k + atoms_span xs)
  case_before arity n k xs are =
      side_before cs (InCase arity) ps 16 0 k (over_if (nat_le 16 n) Cases k) xs are
      (over_before (nat_le 16 n) Cases k (k + 1) (omega arith))

  definition_before : (n k : ℕ) (d : Definition) → IsDefinition d
      → Before (definition_flaw cs ps n k d) (k + definition_span d)
  definition_before n k d is =
      let e = k + definition_span d in
      let cases = cases_flaw cs ps d.arity (k + 6) d.cases in
      first_before (definition_head_flaw cs ps n k d) cases e (definition_head_before n k e d (omega arith))
      (later cases (k + 6 + total atoms_span d.cases) e (omega arith)
      (listed AreAtoms (case_flaw cs ps d.arity) atoms_span (case_before d.arity) 0 (k + 6) d.cases is))

  -- ---- sequents and nodes

  sequent_before : (k : ℕ) (s : Sequent) → IsSequent s → Before (sequent_flaw cs ps k s) (k + sequent_span s)
  sequent_before k s is =
      let e = k + sequent_span s in
      let middle = k + atoms_span s.left in
      let left = side_flaw cs InNode ps 32 0 k None s.left in
      let right = side_flaw cs InNode ps 16 (total_terms s.left) middle None s.right in
      first_before left right e (later left middle e (omega arith)
      (side_before cs InNode ps 32 0 k None s.left is.0 tt))
      (later right (middle + atoms_span s.right) e (omega arith)
      (side_before cs InNode ps 16 (total_terms s.left) middle None s.right is.1 tt))

  terms_before : (m k : ℕ) (ts : List (List Sign)) → Each IsTerm ts
      → Before (terms_flaw cs m k ts) (k + total term_span ts)
  terms_before m k [] are = tt
  terms_before m k (t ∷ ts) are =
      let e = k + total term_span (t ∷ ts) in
      let first = term_flaw cs InNode m k None t in
      let others = terms_flaw cs (m + length t) (k + term_span t) ts in
      first_before first others e (later first (k + tokens_in t) e (omega arith)
      (term_before cs InNode m k None t are.0 tt)) (later others (k + term_span t + total term_span ts) e
      (omega arith) (terms_before (m + length t) (k + term_span t) ts are.1))

  entry_before : (m k : ℕ) (x : Entry) → IsEntry x → Before (entry_flaw cs m k x) (k + entry_span x)
  entry_before m k x is =
      let e = k + entry_span x in
      let value = term_flaw cs InNode m (k + 3) None x.value in
      first_before (variable_flaw InNode (k + 1) x.variable) value e
      (variable_before InNode (k + 1) x.variable e (omega arith))
      (later value (k + 3 + tokens_in x.value) e (omega arith) (term_before cs InNode m (k + 3) None x.value is tt))

  entries_before : (m k : ℕ) (xs : List Entry) → Each IsEntry xs
      → Before (entries_flaw cs m k xs) (k + total entry_span xs)
  entries_before m k [] are = tt
  entries_before m k (x ∷ xs) are =
      let e = k + total entry_span (x ∷ xs) in
      let first = entry_flaw cs m k x in
      let others = entries_flaw cs (m + length x.value) (k + entry_span x) xs in
      first_before first others e (later first (k + entry_span x) e (omega arith) (entry_before m k x are.0))
      (later others (k + entry_span x + total entry_span xs) e (omega arith)
      (entries_before (m + length x.value) (k + entry_span x) xs are.1))

  some_total : {X : Type 0} (span : X → ℕ) (xs : List X) → total span xs ≤ total_or 1 span xs
  some_total span [] = omega arith
  some_total span (x ∷ xs) = omega arith

  reason_before : (m k : ℕ) (r : Reason) → IsReason r → Before (reason_flaw cs ps m k r) (k + reason_span r)
  reason_before m k (Axiom i j) is = tt
  reason_before m k (Refl j) is = tt
  reason_before m k (Clash i) is = tt
  reason_before m k (Decompose i) is = tt
  reason_before m k (Replace i side) is = tt
  reason_before m k (WeakenLeft i) is = tt
  reason_before m k (WeakenRight j) is = tt
  reason_before m k (Contract i) is = tt
  reason_before m k (Unfold i) is = tt
  reason_before m k (Cut a) is =
      let found = atom_flaw cs InNode ps m (k + 1) None a in
      later found (k + 1 + atom_span a) (k + reason_span (Cut a)) (omega arith)
      (atom_before cs InNode ps m (k + 1) None a is tt)
  reason_before m k (Right i j ts) is =
      later (terms_flaw cs m (k + 4) ts) (k + 4 + total term_span ts) (k + reason_span (Right i j ts))
      (omega (arith, some_total term_span ts)) (terms_before m (k + 4) ts is)
  reason_before m k (Link l) is =
      later (entries_flaw cs m (k + 3) l.substitution) (k + 3 + total entry_span l.substitution)
      (k + reason_span (Link l)) (omega (arith, some_total entry_span l.substitution))
      (entries_before m (k + 3) l.substitution is)

  node_before : (n k : ℕ) (x : Node) → IsNode x → Before (node_flaw cs ps n k x) (k + node_span x)
  node_before n k x is =
      let e = k + node_span x in
      let behind = k + 1 + sequent_span x.sequent in
      let first = sequent_flaw cs ps (k + 1) x.sequent in
      let reason = reason_flaw cs ps (sequent_terms x.sequent) behind x.reason in
      first_before (over_if (nat_le 20000 n) Nodes k) (or_later first reason) e
      (over_before (nat_le 20000 n) Nodes k e (omega arith))
      (first_before first reason e (later first behind e (omega arith) (sequent_before (k + 1) x.sequent is.0))
      (later reason (behind + reason_span x.reason) e (omega arith)
      (reason_before (sequent_terms x.sequent) behind x.reason is.1)))

-- ---- texts

theory_before : (cs : List Constructor) (ds : List Definition) → Each IsDefinition ds
    → Before (theory_flaw cs ds) (behind_theory cs ds)
theory_before cs ds are =
    let e = behind_theory cs ds in
    let hs = constructor_heads cs in
    let middle = 4 + total constructor_span cs in
    first_before (constructors_flaw cs) (definitions_flaw cs ds) e
    (later (constructors_flaw cs) middle e (omega arith)
    (listed_before (constructor_flaw hs) constructor_span (constructor_before hs) 0 4 cs))
    (listed IsDefinition (definition_flaw hs (predicate_heads ds)) definition_span
    (definition_before hs (predicate_heads ds)) 0 middle ds are)

-- a proof file's flaw stands before the last statement
pub file_before : (f : File) → Each IsDefinition f.definitions → Each IsNode f.nodes → Before (file_flaw f) (file_end f)
file_before f definitions nodes =
    let theory = theory_flaw f.constructors f.definitions in
    let hs = constructor_heads f.constructors in
    let ps = predicate_heads f.definitions in
    let k = behind_theory f.constructors f.definitions in
    first_before theory (nodes_flaw hs ps k f.nodes) (file_end f)
    (later theory k (file_end f) (omega arith) (theory_before f.constructors f.definitions definitions))
    (listed IsNode (node_flaw hs ps) node_span (node_before hs ps) 0 k f.nodes nodes)

-- a problem file's flaw stands before the last statement
pub problem_before : (p : Problem) → Each IsDefinition p.definitions → IsSequent p.goal
    → Before (problem_flaw p) (problem_end p)
problem_before p definitions goal =
    let theory = theory_flaw p.constructors p.definitions in
    let hs = constructor_heads p.constructors in
    let ps = predicate_heads p.definitions in
    let k = behind_theory p.constructors p.definitions in
    first_before theory (sequent_flaw hs ps (k + 1) p.goal) (problem_end p)
    (later theory k (problem_end p) (omega arith) (theory_before p.constructors p.definitions definitions))
    (sequent_before hs ps (k + 1) p.goal goal)
