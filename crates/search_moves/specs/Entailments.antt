-- What is tried at an entailment, line by line.
use Rattle.std.specs.Prelude.{ℕ, List, [], ◌∷◌, ◌++◌, map, length, Bool, true, false, not, ◌&&◌, ◌||◌, if◌then◌else◌}
use Rattle.std.specs.Prelude.{nat_eq, Option, Some, None}
use Rattle.std.specs.List.{filter, list_any, list_all}
use Rattle.heap_formula.specs.declared.terms.Term.{Term}
use Rattle.heap_formula.specs.declared.terms.Term.TheVariants.{Nil, Univ, Exist}
use Rattle.heap_formula.specs.declared.atoms.Pure.{Pure}
use Rattle.heap_formula.specs.declared.atoms.Pure.TheVariants.{Eq, Neq}
use Rattle.heap_formula.specs.declared.atoms.Spatial.{Spatial}
use Rattle.heap_formula.specs.declared.atoms.Spatial.TheVariants.{Cell, Pred}
use Rattle.heap_formula.specs.declared.judgements.Judgement.{Judgement}
use Rattle.heap_formula.specs.declared.proof_rules.Side.{Side}
use Rattle.heap_formula.specs.declared.proof_rules.Side.TheVariants.{Left, Right}
use Rattle.heap_formula.specs.declared.proof_rules.Rule.{Rule}
use Rattle.heap_formula.specs.declared.proof_rules.Rule.TheVariants.{Absurd, Rewrite, Distinct, Unfold, Done, Choose}
use Rattle.heap_formula.specs.declared.proof_rules.Rule.TheVariants.{PureRight, Instantiate, Frame, UnfoldRight}
use Rattle.heap_formula.specs.Symbolic.{SymbolicHeap}
use Rattle.heap_formula.specs.Meaning.{cases_of}
use Rattle.heap_formula.specs.Substitution.{in_heap, in_pure}
use Rattle.rule_table.specs.RuleLink.{mirror_pure}
use Rattle.rule_table.specs.Tests.{same_term, same_pure, is_universal, is_universal_pure, follows, address_of}
use Rattle.rule_table.specs.Tests.{some_cell_at}
use Rattle.rule_table.specs.Table.{right_term}
use Rattle.search_moves.specs.Places.{each_place, each_of, if_some, first_place, first_line, first_that}
use Rattle.search_moves.specs.Kinds.{is_cell, is_predicate}
use Rattle.search_moves.specs.declared.instances.Instance.{Instance}
use Rattle.search_moves.specs.Trying.{Theory, is_applicable}
use Rattle.std.specs.Option.{option_or}

-- ---- equations of the antecedent

-- the side that gives way: the left one, if it is a variable or both sides are equal, and else the right one
abbrev pub side_of : Pure → Option Side
side_of (Eq Nil u) = Some (if same_term Nil u then Left else Right)
side_of (Eq (Univ n) u) = Some Left
side_of (Eq (Exist n) u) = Some Left
side_of (Neq t u) = None

abbrev pub rewrite_at : ℕ → Option Side → List Rule
rewrite_at k None = []
rewrite_at k (Some side) = Rewrite k side ∷ []

-- by the first equation
abbrev pub rewrites : List Pure → List Rule
rewrites xs = first_place (λ k x. rewrite_at k (side_of x)) xs

-- ---- atoms by their places

abbrev pub choice_at : ℕ → SymbolicHeap → List Rule
choice_at k b = Choose k ∷ []

abbrev pub choices : List SymbolicHeap → List Rule
choices bs = each_place choice_at bs

abbrev pub unfold_at : ℕ → Spatial → List Rule
unfold_at k x = if is_predicate x then Unfold k ∷ [] else []

abbrev pub unfolds : List Spatial → List Rule
unfolds xs = each_place unfold_at xs

abbrev pub pure_right_at : ℕ → Pure → List Rule
pure_right_at k x = PureRight k ∷ []

abbrev pub pure_rights : List Pure → List Rule
pure_rights xs = each_place pure_right_at xs

abbrev pub frame_at : ℕ → ℕ → Spatial → List Rule
frame_at i k y = Frame i k ∷ []

-- the left atom at place i with each on the right
abbrev pub frames_from : List Spatial → ℕ → List Rule
frames_from ys i = each_place (frame_at i) ys

abbrev pub frames_if : List Spatial → ℕ → Bool → List Rule
frames_if ys i wanted = if wanted then frames_from ys i else []

-- each cell of the left with each atom of the right
abbrev pub cell_frames : List Spatial → List Spatial → List Rule
cell_frames xs ys = each_place (λ i x. frames_if ys i (is_cell x)) xs

-- each predicate atom of the left with each atom of the right
abbrev pub predicate_frames : List Spatial → List Spatial → List Rule
predicate_frames xs ys = each_place (λ i x. frames_if ys i (is_predicate x)) xs

-- ---- addresses that differ

-- the disequation of two addresses, or of one with `nil`
abbrev pub apart : ℕ → ℕ → Option Term → Option Term → Option Pure
apart i k None u = None
apart i k (Some t) None = None
apart i k (Some t) (Some u) = Some (Neq t (if nat_eq i k then Nil else u))

abbrev pub is_or_mirrors : Pure → Option Pure → Bool
is_or_mirrors x None = false
is_or_mirrors x (Some y) = same_pure y x || same_pure y (mirror_pure x)

-- the pair of cells that tells the atom or its mirror image apart
abbrev pub distinct_at : Pure → ℕ → Spatial → ℕ → Spatial → List Rule
distinct_at x i y k z = if is_or_mirrors x (apart i k (address_of y) (address_of z)) then Distinct i k ∷ [] else []

abbrev pub distincts_with : Pure → List Spatial → ℕ → Spatial → List Rule
distincts_with x ys i y = each_place (distinct_at x i y) ys

-- the Distincts that append the atom or its mirror image
abbrev pub distincts_for : List Spatial → Pure → List Rule
distincts_for ys x = each_place (distincts_with x ys) ys

abbrev pub distincts_if : List Spatial → Bool → Pure → List Rule
distincts_if ys wanted x = if wanted then distincts_for ys x else []

-- for the disequations of the right side that have no existential
abbrev pub distincts : List Spatial → List Pure → List Rule
distincts ys xs = each_of (λ x. distincts_if ys (is_universal_pure x) x) xs

-- ---- instances of existentials

abbrev pub instance : ℕ → Term → Instance
instance v t = record { variable = v; term = t }

-- by the other side of an equation of which just one side is an existential
abbrev pub equation_instance : Pure → Option Instance
equation_instance (Neq t u) = None
equation_instance (Eq Nil Nil) = None
equation_instance (Eq Nil (Univ m)) = None
equation_instance (Eq Nil (Exist v)) = Some (instance v Nil)
equation_instance (Eq (Univ n) Nil) = None
equation_instance (Eq (Univ n) (Univ m)) = None
equation_instance (Eq (Univ n) (Exist v)) = Some (instance v (Univ n))
equation_instance (Eq (Exist v) Nil) = Some (instance v Nil)
equation_instance (Eq (Exist v) (Univ m)) = Some (instance v (Univ m))
equation_instance (Eq (Exist v) (Exist w)) = None

abbrev pub equation_instances : List Pure → List Instance
equation_instances xs = each_of (λ x. if_some (equation_instance x)) xs

-- for a term in the place of an existential
abbrev pub instance_at : Term → Term → Option Instance
instance_at t Nil = None
instance_at t (Univ n) = None
instance_at t (Exist v) = Some (instance v t)

-- the first existential of the second list, by the term of the first list at its place
abbrev pub first_instance : List Term → List Term → Option Instance
first_instance [] us = None
first_instance (t ∷ ts) [] = None
first_instance (t ∷ ts) (u ∷ us) = option_or (instance_at t u) (first_instance ts us)

-- of two cells of one address and length
abbrev pub field_instance : Spatial → Spatial → Option Instance
field_instance (Cell t ts) (Cell u us) = if same_term t u && nat_eq (length ts) (length us)
    then first_instance ts us else None
field_instance (Cell t ts) (Pred q us) = None
field_instance (Pred p ts) (Cell u us) = None
field_instance (Pred p ts) (Pred q us) = None

abbrev pub fields_with : List Spatial → Spatial → List Instance
fields_with ys x = each_of (λ y. if_some (field_instance x y)) ys

abbrev pub field_instances : List Spatial → List Spatial → List Instance
field_instances xs ys = each_of (fields_with ys) xs

-- the lists are one wherever the second has no existential
abbrev pub agree : List Term → List Term → Bool
agree [] us = true
agree (t ∷ ts) [] = true
agree (t ∷ ts) (u ∷ us) = (not (is_universal u) || same_term t u) && agree ts us

-- of two atoms of one predicate that agree
abbrev pub argument_instance : Spatial → Spatial → Option Instance
argument_instance (Pred p ts) (Pred q us) = if nat_eq p q && agree ts us then first_instance ts us else None
argument_instance (Pred p ts) (Cell u us) = None
argument_instance (Cell t ts) (Cell u us) = None
argument_instance (Cell t ts) (Pred q us) = None

abbrev pub same_instance : Instance → Instance → Bool
same_instance i k = nat_eq i.variable k.variable && same_term i.term k.term

-- each instance once, where it comes first; these are done already
abbrev pub once : List Instance → List Instance → List Instance
once done [] = done
once done (i ∷ is) = if list_any (same_instance i) done then once done is else once (done ++ i ∷ []) is

-- by the left atoms, for a right atom
abbrev pub arguments_with : List Spatial → Spatial → List Instance
arguments_with xs y = each_of (λ x. if_some (argument_instance x y)) xs

abbrev pub argument_instances : List Spatial → List Spatial → List Instance
argument_instances xs ys = once [] (each_of (arguments_with xs) ys)

abbrev pub instance_rule : Instance → Rule
instance_rule i = Instantiate i.variable i.term

-- ---- cases of the right side

-- the address of a cell: an existential, or that of a cell of the left side
abbrev pub may_stand : List Spatial → Term → Bool
may_stand xs Nil = false
may_stand xs (Univ n) = some_cell_at (Univ n) xs
may_stand xs (Exist v) = true

abbrev pub has_place : List Spatial → Spatial → Bool
has_place xs (Cell t ts) = may_stand xs t
has_place xs (Pred q ts) = true

-- the atom has an existential, follows, or is a disequation that some Distinct appends
abbrev pub may_follow : Theory → Judgement → SymbolicHeap → Pure → Bool
may_follow t j a x = not (is_universal_pure x) || (follows a.pure x || list_any (is_applicable t j)
    (distincts_for a.spatial x))

-- the case, its parameters being replaced, passes both tests
abbrev pub may_unfold : Theory → Judgement → SymbolicHeap → SymbolicHeap → Bool
may_unfold t j a body = list_all (has_place a.spatial) body.spatial && list_all (may_follow t j a) body.pure

-- each of a case's pure atoms follows or may, its parameters being replaced
abbrev pub all_may_follow : Theory → Judgement → SymbolicHeap → List Term → List Pure → Bool
all_may_follow t j a ts xs = list_all (may_follow t j a) (map (in_pure (right_term ts 0)) xs)

abbrev pub may_unfold_case : Theory → Judgement → SymbolicHeap → List Term → SymbolicHeap → Bool
may_unfold_case t j a ts case = may_unfold t j a (in_heap (right_term ts 0) case)

abbrev pub right_unfold_at : Theory → Judgement → SymbolicHeap → ℕ → List Term → ℕ → SymbolicHeap → List Rule
right_unfold_at t j a k ts c case =
    if may_unfold_case t j a ts case then UnfoldRight k c ∷ [] else []

abbrev pub right_unfolds_of : Theory → Judgement → SymbolicHeap → ℕ → Spatial → List Rule
right_unfolds_of t j a k (Cell u us) = []
right_unfolds_of t j a k (Pred q ts) = each_place (right_unfold_at t j a k ts) (cases_of t.definitions q)

abbrev pub right_unfolds : Theory → Judgement → SymbolicHeap → List Spatial → List Rule
right_unfolds t j a ys = each_place (right_unfolds_of t j a) ys

-- ---- the lines

-- before links are looked at
abbrev pub entailment_before : Theory → Judgement → SymbolicHeap → List Rule
entailment_before t j a = first_line (filter (is_applicable t j) (Absurd ∷ []) ∷ rewrites a.pure ∷ [])

-- with one disjunct: instances by arguments, cases of the right side, and unfolding on the left
abbrev pub last_line : Theory → Judgement → SymbolicHeap → SymbolicHeap → List Rule
last_line t j a b =
    filter (is_applicable t j) ((map instance_rule (argument_instances a.spatial b.spatial)
    ++ right_unfolds t j a b.spatial) ++ unfolds a.spatial)

-- from instances by equations on
abbrev pub instance_lines : Theory → Judgement → SymbolicHeap → SymbolicHeap → List (List Rule)
instance_lines t j a b =
    first_that (is_applicable t j) (map instance_rule (equation_instances b.pure)) ∷
    first_that (is_applicable t j) (map instance_rule (field_instances a.spatial b.spatial)) ∷
    first_that (is_applicable t j) (predicate_frames a.spatial b.spatial) ∷
    last_line t j a b ∷ []

-- the first of them that applies
abbrev pub instance_line : Theory → Judgement → SymbolicHeap → SymbolicHeap → List Rule
instance_line t j a b = first_line (instance_lines t j a b)

abbrev pub single_lines : Theory → Judgement → SymbolicHeap → SymbolicHeap → List (List Rule)
single_lines t j a b =
    filter (is_applicable t j) (Done ∷ []) ∷
    first_that (is_applicable t j) (pure_rights b.pure) ∷
    first_that (is_applicable t j) (distincts a.spatial b.pure) ∷
    first_that (is_applicable t j) (cell_frames a.spatial b.spatial) ∷
    instance_lines t j a b

-- the first of them that applies
abbrev pub single_line : Theory → Judgement → SymbolicHeap → SymbolicHeap → List Rule
single_line t j a b = first_line (single_lines t j a b)

-- with several disjuncts: the choice of one, and unfolding on the left
abbrev pub several_line : Theory → Judgement → SymbolicHeap → List SymbolicHeap → List Rule
several_line t j a bs = filter (is_applicable t j) (choices bs ++ unfolds a.spatial)

-- where no link is admitted
abbrev pub entailment_after : Theory → Judgement → SymbolicHeap → List SymbolicHeap → List Rule
entailment_after t j a [] = []
entailment_after t j a (b ∷ []) = single_line t j a b
entailment_after t j a (b ∷ c ∷ bs) = several_line t j a (b ∷ c ∷ bs)
