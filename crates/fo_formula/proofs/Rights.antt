-- Right is sound: a case whose atoms all hold makes the predicate hold.
use Rattle.std.proofs.Common.{◌≡◌, ℕ, ◌⊎◌, List, [], ◌∷◌, map, Some, slice_get, refl, sym, inl, inr}
use Rattle.std.proofs.Math.ListN.{get_or-map}
use Rattle.heap_formula.specs.Words.{Each, OneOf}
use Rattle.heap_formula.specs.Meaning.{Stages}
use Rattle.fo_formula.specs.declared.terms.Sign.{Sign}
use Rattle.fo_formula.specs.declared.terms.Sign.TheVariants.{Universal, Local, Constructor}
use Rattle.fo_formula.specs.declared.atoms.FoAtom.{FoAtom}
use Rattle.fo_formula.specs.declared.atoms.FoAtom.TheVariants.{Predicate}
use Rattle.fo_formula.specs.declared.sequents.FoSequent.{FoSequent}
use Rattle.fo_formula.specs.declared.theory.FoTheory.{FoTheory}
use Rattle.fo_formula.specs.Words.{Word, in_atom, first_constant}
use Rattle.fo_formula.specs.Values.{IsValuation, sign_value, value}
use Rattle.fo_formula.specs.Meaning.{AtomHolds, CaseHolds, cases_of, at_stage, least}
use Rattle.fo_formula.specs.Validity.{LeftHolds}
use Rattle.fo_formula.specs.Shapes.{HasConstant, IsOpenTerm}
use Rattle.fo_formula.proofs.Replacing.{IsValued, atom-replaced, values_closed}
use Rattle.fo_formula.proofs.StageLaws.{least-IsClosed}
use Rattle.fo_formula.specs.Table.{right_premise}
use Rattle.fo_formula.specs.Soundness.{PremiseHolds, IsLocallySound}
use Rattle.fo_formula.proofs.Lefts.{pairs_follow, one_set}
use Rattle.fo_formula.proofs.Agreement.{in_any_atom}
use Rattle.heap_formula.proofs.SomeMember.{one_at}

-- a case's signs at arguments and terms have the values that they have under the values
case_valued : (v args terms : List Word) (x : Sign)
    → IsValued v [] (map (value v []) args) (map (value v []) terms) (sign_value args terms) x
case_valued v args terms (Universal j) = sym (get_or-map (value v []) args j first_constant)
case_valued v args terms (Local j) = sym (get_or-map (value v []) terms j first_constant)
case_valued v args terms (Constructor c k) = refl

module _ (t : FoTheory) (s : FoSequent) (j p : ℕ) (args terms : List Word) (stages : Stages) (v : List Word)
    (ok : IsValuation t.constructors v) (h : LeftHolds (λ k. at_stage t (stages k)) v s.left) where
  -- the conclusion holds, or all atoms of the case
  all_atoms : (case : List FoAtom) → Each (PremiseHolds t stages) (map (right_premise s j args terms) case)
      → OneOf (AtomHolds (least t) v []) s.right ⊎ Each (AtomHolds (least t) (map (value v []) args)
      (map (value v []) terms)) case
  all_atoms [] ps = inr tt
  all_atoms (x ∷ case) ps =
      elim (one_set (AtomHolds (least t) v []) s.right j (in_atom (sign_value args terms) x)
      (ps.0 stages (pairs_follow (λ k. k) stages 0 s.left) v ok h)) [
        | inl o ↦ inl o
        | inr a ↦
            elim (all_atoms case ps.1) [
              | inl o ↦ inl o
              | inr b ↦ inr (
                (atom-replaced v [] (map (value v []) args) (map (value v []) terms)
                    (sign_value args terms) (least t) x (in_any_atom
                    (IsValued v [] (map (value v []) args) (map (value v []) terms) (sign_value args terms))
                    (case_valued v args terms) x)).0 a,
                b,
              )
            ]
      ]

pub right_lemma : (t : FoTheory) (s : FoSequent) (j p c : ℕ) (args terms : List Word) (case : List FoAtom)
    → HasConstant t → Each (IsOpenTerm t.constructors) terms → slice_get s.right j ≡ Some (Predicate p args)
    → slice_get (cases_of t.definitions p) c ≡ Some case → IsLocallySound t s (map (right_premise s j args terms) case)
right_lemma t s j p c args terms case constant are_open at at_case stages premises v ok h =
    elim (all_atoms t s j p args terms stages v ok h case premises) [
      | inl o ↦ o
      | inr all ↦
          let vs = map (value v []) args in
          let locals = map (value v []) terms in
          let closed = values_closed t.constructors constant v ok terms are_open in
          let some = one_at (CaseHolds t (least t) vs) (cases_of t.definitions p) c case at_case (locals, closed, all)
          in
          one_at (AtomHolds (least t) v []) s.right j (Predicate p args) at (least-IsClosed t p vs some)
    ]
