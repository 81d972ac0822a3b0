-- Tokens that a script goes on with, and others.
use Rattle.std.proofs.Common.{◌≡◌, ◌∙◌, ◌+◌, ◌==◌, ap, sym, refl, not, ℕ, zero, suc, Bool, true, false, List, ◌∷◌}
use Rattle.std.proofs.Common.{add-one}
use Rattle.std.specs.Prelude.{Some}
use Rattle.std.proofs.Math.Dec.{eqb-suc-zero}
use Rattle.script_reader.specs.declared.trees.kinds.AtomKind.{AtomKind}
use Rattle.script_reader.specs.declared.trees.kinds.TokenKind.{TokenKind}
use Rattle.script_reader.specs.declared.trees.kinds.TokenKind.TheVariants.{Open, Close, Atom}
use Rattle.script_reader.specs.Tokens.{Placed}
use Rattle.script_reader.specs.Faults.{is_symbol, refuses_atom, unfit_from}

abbrev placed : TokenKind → ℕ → ℕ → Placed
placed kind from to = record { kind = kind; from = from; to = to }

module _ (from to end : ℕ) (ts : List Placed) where
  begun_other : (n : ℕ) (begun : Bool) (kind : TokenKind) → begun ≡ true → is_symbol kind ≡ false
      → unfit_from end n begun (placed kind from to ∷ ts) ≡ Some from
  unfolding unfit_from
  begun_other n begun kind b k = rw (b, k) refl

  pub opened_begun : (n : ℕ) (begun : Bool) → begun ≡ true
      → unfit_from end n begun (placed Open from to ∷ ts) ≡ Some from
  opened_begun n begun b = begun_other n begun Open b refl

  pub closed_begun : (n : ℕ) (begun : Bool) → begun ≡ true
      → unfit_from end n begun (placed Close from to ∷ ts) ≡ Some from
  closed_begun n begun b = begun_other n begun Close b refl

  open_plain : (n : ℕ) → unfit_from end n false (placed Open from to ∷ ts) ≡ unfit_from end (suc n) (n == 0) ts
  unfolding unfit_from
  open_plain zero = refl
  open_plain (suc n) = rw (eqb-suc-zero n) refl

  pub opened : (n m : ℕ) (begun begins : Bool) → begun ≡ false → begins ≡ (n == 0) → m ≡ n + 1
      → unfit_from end n begun (placed Open from to ∷ ts) ≡ unfit_from end m begins ts
  opened n m begun begins b s e =
      ap (λ q. unfit_from end n q (placed Open from to ∷ ts)) b ∙ open_plain n
      ∙ ap (λ q. unfit_from end (suc n) q ts) (sym s) ∙ ap (λ k. unfit_from end k begins ts) (sym (e ∙ add-one n))

  close_plain : (n : ℕ) → unfit_from end (suc n) false (placed Close from to ∷ ts) ≡ unfit_from end n false ts
  unfolding unfit_from
  close_plain n = refl

  pub closed : (n m : ℕ) (begun after : Bool) → begun ≡ false → after ≡ begun → m + 1 ≡ n
      → unfit_from end n begun (placed Close from to ∷ ts) ≡ unfit_from end m after ts
  closed n m begun after b s e =
      ap (λ q. unfit_from end n q (placed Close from to ∷ ts)) b
      ∙ ap (λ k. unfit_from end k false (placed Close from to ∷ ts)) (sym (sym (add-one m) ∙ e)) ∙ close_plain m
      ∙ ap (λ q. unfit_from end m q ts) (sym (s ∙ b))

  close_none : unfit_from end 0 false (placed Close from to ∷ ts) ≡ Some from
  unfolding unfit_from
  close_none = refl

  pub closed_none : (n : ℕ) (begun : Bool) → begun ≡ false → n ≡ 0
      → unfit_from end n begun (placed Close from to ∷ ts) ≡ Some from
  closed_none n begun b e =
      ap (λ q. unfit_from end n q (placed Close from to ∷ ts)) b
      ∙ ap (λ k. unfit_from end k false (placed Close from to ∷ ts)) e ∙ close_none

  pub atom_refused : (n : ℕ) (begun : Bool) (kind : AtomKind) → refuses_atom n begun kind ≡ true
      → unfit_from end n begun (placed (Atom kind) from to ∷ ts) ≡ Some from
  unfolding unfit_from
  atom_refused n true kind r = begun_other n true (Atom kind) refl (negated (is_symbol (Atom kind)) r)
    where
      negated : (b : Bool) → not b ≡ true → b ≡ false
      negated true h = sym h
      negated false h = refl
  atom_refused zero false kind r = refl
  atom_refused (suc n) false kind r = absurd (let h : false ≡ true = sym (eqb-suc-zero n) ∙ r in cc)

  pub atom_taken : (n : ℕ) (begun : Bool) (kind : AtomKind) → refuses_atom n begun kind ≡ false
      → unfit_from end n begun (placed (Atom kind) from to ∷ ts) ≡ unfit_from end n false ts
  unfolding unfit_from
  atom_taken n true kind r = rw (negated (is_symbol (Atom kind)) r) refl
    where
      negated : (b : Bool) → not b ≡ false → b ≡ true
      negated true h = refl
      negated false h = sym h
  atom_taken zero false kind r = absurd (let h : true ≡ false = r in cc)
  atom_taken (suc n) false kind r = refl
