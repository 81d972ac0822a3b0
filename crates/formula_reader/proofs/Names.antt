-- The names of predicates: each is free and leads back to its definition.
use Rattle.std.proofs.Common.{◌≡◌, ℕ, zero, suc, ◌≤◌, Bool, true, false, List, [], ◌∷◌, map, Option, Some, None, refl}
use Rattle.std.proofs.Common.{ap, ◌∙◌, arith}
use Rattle.std.specs.Prelude.{nat_eq, not, if◌then◌else◌, slice_get}
use Rattle.std.specs.Str.{bytes_eq}
use Rattle.std.proofs.lemmas.Bool.{eqb-true, eq-eqb}
use Rattle.std.proofs.lemmas.Slice.Eq.{bytes_eq-Decides}
use Rattle.cyc_basics.specs.declared.limits.Limits.{Limits}
use Rattle.heap_formula.specs.Definitions.{Definition}
use Rattle.heap_formula.specs.Words.{Each}
use Rattle.pred_defs.specs.Faults.{arity_fault}
use Rattle.pred_defs.specs.declared.faults.DefFault.TheVariants.{Arity}
use Rattle.cyc_lex.specs.declared.fault.IllFault.TheVariants.{Arity as Unfit}
use Rattle.rule_book.specs.Limits.{IsDefinitionWithin}
use Rattle.formula_reader.specs.Within.{HaveFreeNames, HaveOwnNames}
use Rattle.cyc_grammar.specs.Classes.{is_free_name}
use Rattle.proof_syntax.specs.Grammar.{reserved}
use Rattle.heap_reader.specs.Trees.{Heading}
use Rattle.heap_reader.specs.Flaws.{ill_if, arity_in, use_flaw}
use Rattle.proof_file.specs.Flaws.{headings}
use Rattle.proof_file.specs.Written.{name_in, name_of, definition_tree}
use Rattle.heap_formula.proofs.AllMembers.{each_at}

-- no definition has more parameters than it may have
abbrev pub HaveFewParameters : Limits → List Definition → Type 0
HaveFewParameters limit ds = (q : ℕ) (d : Definition) → slice_get ds q ≡ Some d → d.arity ≤ limit.arguments

pub few_parameters : (limit : Limits) (ds xs : List Definition) → Each (IsDefinitionWithin limit ds) xs
    → HaveFewParameters limit xs
few_parameters limit ds xs e q d at = (each_at (IsDefinitionWithin limit ds) xs q d at e).arity

-- the names and arities of some definitions' trees
abbrev pub heads_of : List Definition → List Definition → List Heading
heads_of ds xs = headings (map (definition_tree ds) xs)

-- the name of a definition leads to it
pub arity_known : (ds xs : List Definition) → HaveOwnNames xs → (q : ℕ) (d : Definition) → slice_get xs q ≡ Some d
    → arity_in (heads_of ds xs) d.name ≡ Some d.arity
arity_known ds [] own q d at = absurd cc
arity_known ds (x ∷ xs) own zero d at =
    let same : x ≡ d = cc in
    let named = (bytes_eq-Decides x.name d.name).1 (ap (λ (y : Definition). y.name) same) in
    ap (λ (b : Bool). if b then Some x.arity else arity_in (heads_of ds xs) d.name) named
    ∙ ap (λ (y : Definition). Some y.arity) same
arity_known ds (x ∷ xs) own (suc q) d at =
    by_test (bytes_eq x.name d.name) refl (arity_known ds xs
    (λ p r d e at_p at_r same. let next = own (suc p) (suc r) d e at_p at_r same in omega arith) q d at)
  where
    by_test : (b : Bool) → bytes_eq x.name d.name ≡ b → arity_in (heads_of ds xs) d.name ≡ Some d.arity
        → (if b then Some x.arity else arity_in (heads_of ds xs) d.name) ≡ Some d.arity
    by_test true e rest = let first = own zero (suc q) x d refl at ((bytes_eq-Decides x.name d.name).0 e) in
        absurd (omega arith)
    by_test false e rest = rest

same_arity : (n m : ℕ) → (if nat_eq n m then None else Some Arity) ≡ None → n ≡ m
same_arity n m e =
    by_test (nat_eq n m) refl e
  where
    by_test : (b : Bool) → nat_eq n m ≡ b → (if b then None else Some Arity) ≡ None → n ≡ m
    by_test true h g = eqb-true n m h
    by_test false h g = absurd cc

-- a use without a fault is that of a definition with so many parameters
pub used : (o : Option Definition) (n : ℕ) → arity_fault o n ≡ None → (d : Definition) × (o ≡ Some d) × (n ≡ d.arity)
used None n e = absurd cc
used (Some d) n e = (d, refl, same_arity n d.arity e)

module _ (ds : List Definition) (q n : ℕ) (known : arity_fault (slice_get ds q) n ≡ None) where
  pub used_name_free : HaveFreeNames ds → is_free_name reserved (name_of ds q) ≡ true
  used_name_free free =
      let found_use = used (slice_get ds q) n known in
      ap (λ o. is_free_name reserved (name_in o)) found_use.1 ∙ free q found_use.0 found_use.1

  pub used_with_few : (limit : Limits) → HaveFewParameters limit ds → n ≤ limit.arguments
  used_with_few limit few =
      let found_use = used (slice_get ds q) n known in
      let most = few q found_use.0 found_use.1 in
      let same = found_use.2 in
      omega arith

  pub no_use_flaw : HaveOwnNames ds → (k : ℕ) → use_flaw (arity_in (heads_of ds ds) (name_of ds q)) n k ≡ None
  no_use_flaw own k =
      let found_use = used (slice_get ds q) n known in
      let found = ap (λ o. arity_in (heads_of ds ds) (name_in o)) found_use.1
      ∙ arity_known ds ds own q found_use.0 found_use.1 in
      ap (λ o. use_flaw o n k) found ∙ ap (λ b. ill_if (not b) Unfit k) (eq-eqb n found_use.0.arity found_use.2)
