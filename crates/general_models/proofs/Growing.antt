-- A run that comes back with more never halts.
use Rattle.std.proofs.Common.{◌≡◌, ℕ, zero, suc, ◌+◌, ◌<◌, List, Some, refl, subst, sym, arith}
use Rattle.heap_formula.specs.declared.commands.Command.{Command}
use Rattle.heap_formula.specs.Programs.{Config as State, EndMeaning, Halts, command_at, counted_from_one}
use Rattle.goto_lang.specs.Steps.{MayTake, Leads}
use Rattle.general_models.specs.Growing.{Alike, TakesFresh}
use Rattle.general_models.proofs.Chains.{Chain, halts_chain}
use Rattle.general_models.proofs.Likeness.{step_followed, alike_through, alike_same}

-- a step whose new cell is fresh
pub record FreshStep (lines : List Command) (w : ℕ) (c d : State) : Type 0 where
  pub command : Command
  pub address : ℕ
  pub fields : List ℕ
  pub at : command_at lines c ≡ Some command
  pub may : MayTake command w address fields c
  pub fresh : TakesFresh command address fields c
  pub leads : Leads command address fields c d

-- n of them
abbrev pub FreshChain : List Command → ℕ → ℕ → State → State → Type 0
FreshChain lines w zero c d = d ≡ c
FreshChain lines w (suc n) c d = (m : State) × FreshChain lines w n c m × FreshStep lines w m d

-- so many steps lead from d to a state that is like this one
record Along (lines : List Command) (w n : ℕ) (d e : State) : Type 1 where
  pub related : ℕ → ℕ → Type 0
  pub state : State
  pub chain : Chain lines w n d state
  pub alike : Alike related e state

module _ (End : EndMeaning) (lines : List Command) (w : ℕ) (c : State) where
  followed : (n : ℕ) (e : State) → FreshChain lines w n c e → (R : ℕ → ℕ → Type 0) (d : State) → Alike R c d
      → Along lines w n d e
  followed zero e r R d l = record {
    related = R;
    state = d;
    chain = refl;
    alike = subst (λ z. Alike R z d) (sym r) l;
  }
  followed (suc n) e r R d l =
      let a = followed n r.0 r.1 R d l in
      let s = r.2 in
      let at : command_at lines a.state ≡ Some s.command =
      subst (λ i. counted_from_one lines i ≡ Some s.command) a.alike.line s.at in
      let f = step_followed s.command a.related w s.address s.fields r.0 a.state e a.alike s.may s.fresh s.leads in
      record {
        related = f.related;
        state = f.state;
        chain = (a.state, a.chain, (s.command, at, f.goes));
        alike = f.alike;
      }

  -- the first state of such a run is like the last: from no state like the first does the program halt
  never_from : (n : ℕ) (e : State) → 0 < n → FreshChain lines w n c e → (P : ℕ → ℕ → Type 0) → Alike P c e
      → (bound m : ℕ) → m < bound → (R : ℕ → ℕ → Type 0) (d : State) → Alike R c d → Halts End lines w m d → ⊥
  never_from n e pos r P back zero m lt R d l h = absurd (omega arith)
  never_from n e pos r P back (suc bound) m lt R d l h =
      let a = followed n e r R d l in
      let k = halts_chain End lines w n m d a.state a.chain h in
      let less : m ≡ k.0 + n = k.1 in
      never_from n e pos r P back bound k.0 (omega arith) (λ x z. (y : ℕ) × P x y × a.related y z) a.state
      (alike_through P a.related c e a.state back a.alike) k.2

  pub never_grows : (n : ℕ) (e : State) → 0 < n → FreshChain lines w n c e → (P : ℕ → ℕ → Type 0) → Alike P c e
      → (m : ℕ) → Halts End lines w m c → ⊥
  never_grows n e pos r P back m h =
      never_from n e pos r P back (suc m) m (omega arith) (λ x y. x ≡ y) c (alike_same c) h
