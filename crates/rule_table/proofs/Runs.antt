-- Runs that halt, and the premise of Exec at `new`.
use Rattle.std.proofs.Common.{◌≡◌, ℕ, zero, suc, ◌+◌, ◌<◌, ◌≤◌, ◌⊎◌, List, length, Option, Some, None, refl, sym, subst}
use Rattle.std.proofs.Common.{arith, inl, inr}
use Rattle.std.specs.Prelude.{slice_set}
use Rattle.std.specs.FinMap.{insert}
use Rattle.heap_formula.specs.declared.commands.Command.{Command}
use Rattle.heap_formula.specs.declared.commands.Command.TheVariants.{New}
use Rattle.heap_formula.specs.Words.{Each}
use Rattle.heap_formula.specs.Cells.{cell_at}
use Rattle.heap_formula.specs.Programs.{Config, Goes, GoesOn, EndMeaning, Halts, MayPick, command_at, greatest, next_line}
use Rattle.rule_table.proofs.Bounded.{one_bound, list_bound}

module _ (End : EndMeaning) (lines : List Command) (w : ℕ) where
  halts_next : (n : ℕ) (c : Config) → Halts End lines w n c → Halts End lines w (suc n) c
  halts_next zero c h = inl h
  halts_next (suc n) c (inl h) = inl h
  halts_next (suc n) c (inr r) = inr (r.0, r.1, r.2, λ d g. halts_next n d (r.3 d g))

  pub halts_more : (n k : ℕ) (c : Config) → Halts End lines w n c → Halts End lines w (n + k) c
  halts_more n zero c h = let e : n ≡ n + 0 = omega arith in subst (λ m. Halts End lines w m c) e h
  halts_more n (suc k) c h =
      let e : suc (n + k) ≡ n + suc k = omega arith in
      subst (λ m. Halts End lines w m c) e (halts_next (n + k) c (halts_more n k c h))

  -- a command that leads to one state
  pub one_way : (x : Command) (c d : Config) → command_at lines c ≡ Some x → GoesOn x c
      → ((e : Config) → Goes x w c e → e ≡ d) → (n : ℕ) × Halts End lines w n d → (n : ℕ) × Halts End lines w n c
  one_way x c d at nf only r = (suc r.0, inr (x, at, nf, λ e g. subst (Halts End lines w r.0) (sym (only e g)) r.1))

  -- a command that leads to two states
  pub two_ways : (x : Command) (c d e : Config) → command_at lines c ≡ Some x → GoesOn x c
      → ((f : Config) → Goes x w c f → (f ≡ d) ⊎ (f ≡ e)) → (n : ℕ) × Halts End lines w n d → (n : ℕ) × Halts End lines w n e
      → (n : ℕ) × Halts End lines w n c
  two_ways x c d e at nf only p q = (suc (p.0 + q.0), inr (x, at, nf, λ f g. halts f (only f g)))
    where
      halts : (f : Config) → (f ≡ d) ⊎ (f ≡ e) → Halts End lines w (p.0 + q.0) f
      halts f (inl same) = subst (Halts End lines w (p.0 + q.0)) (sym same) (halts_more p.0 q.0 d p.1)
      halts f (inr same) =
          let either : q.0 + p.0 ≡ p.0 + q.0 = omega arith in
          subst (Halts End lines w (p.0 + q.0)) (sym same)
          (subst (λ n. Halts End lines w n e) either (halts_more q.0 p.0 e q.1))

  -- where `new` leads
  abbrev picked : ℕ → Config → ℕ → List ℕ → Config
  picked x c a vs = next_line c (slice_set c.stack x a) (insert c.heap a vs)

  abbrev HaltsIfFree : ℕ → Config → ℕ → List ℕ → ℕ → Type 0
  HaltsIfFree x c a vs n = 0 < a → cell_at c.heap a ≡ None → Halts End lines w n (picked x c a vs)

  if_free : (x : ℕ) (c : Config) (a : ℕ) (vs : List ℕ) → (o : Option (List ℕ)) → cell_at c.heap a ≡ o
      → (0 < a → cell_at c.heap a ≡ None → (n : ℕ) × Halts End lines w n (picked x c a vs))
      → (n : ℕ) × HaltsIfFree x c a vs n
  if_free x c zero vs o e f = (0, λ pos free. absurd (omega arith))
  if_free x c (suc a) vs (Some us) e f = (0, λ pos free. cc)
  if_free x c (suc a) vs None e f = let r = f (omega arith) e in (r.0, λ pos free. r.1)

  -- `new` halts where it halts after each pick
  pub new_way : (x k : ℕ) (c : Config) → command_at lines c ≡ Some (New x k)
      → ((a : ℕ) (vs : List ℕ) → MayPick w c k a vs → (n : ℕ) × Halts End lines w n (picked x c a vs))
      → (n : ℕ) × Halts End lines w n c
  new_way x k c at f =
      let m = greatest c + w in
      let r = one_bound (λ a n. (vs : List ℕ) → length vs ≡ k → Each (λ v. v ≤ m) vs → HaltsIfFree x c a vs n)
      (λ a n j g vs e q pos free. halts_more n j (picked x c a vs) (g vs e q pos free)) m
      (λ a le. list_bound (λ vs n. HaltsIfFree x c a vs n)
      (λ vs n j g pos free. halts_more n j (picked x c a vs) (g pos free)) k m
      (λ vs e q. if_free x c a vs (cell_at c.heap a) refl
      (λ pos free. f a vs (record { positive = pos; within = le; free = free; count = e; values_within = q })))) in (
        suc r.0,
        inr (
          New x k,
          at,
          ((λ stop. stop), (λ bad. bad)),
          λ d g.
              let p = g.2 in subst (Halts End lines w r.0) (sym g.3)
              (r.1 g.0 p.within g.1 p.count p.values_within p.positive p.free),
        ),
      )
