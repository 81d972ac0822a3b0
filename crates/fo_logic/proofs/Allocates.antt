-- Endless allocation does not halt; `stop` does; and at an end the end holds.
use Rattle.std.proofs.Common.{◌≡◌, ℕ, zero, suc, ◌<◌, List, [], ◌∷◌, Some, refl, sym, ap, ◌∙◌, subst, inl, inr}
use Rattle.std.proofs.Math.ListN.{replicate}
use Rattle.std.specs.Prelude.{slice_set}
use Rattle.std.specs.FinMap.{insert}
use Rattle.heap_formula.specs.declared.commands.Command.{Command}
use Rattle.heap_formula.specs.declared.commands.Command.TheVariants.{New, Goto, Stop, Ends}
use Rattle.heap_formula.specs.Programs.{Config, IsStop, EndMeaning, StopsWith, Stops, EndHolds, Halts, Goes, counted_from_one}
use Rattle.heap_formula.specs.Programs.{next_line, jump, greatest}
use Rattle.heap_formula.specs.Definitions.{Definition}
use Rattle.heap_formula.specs.Symbolic.{SymbolicHeap}
use Rattle.heap_formula.specs.Cells.{Cells}
use Rattle.heap_formula.proofs.EndLaws.{stops_is_stop}
use Rattle.heap_formula.proofs.StepLaws.{may_pick}
use Rattle.fo_logic.specs.Samples.{allocating, stopping}

-- no line of the program has `stop`
not_stop : (i : ℕ) (x : Command) → counted_from_one allocating i ≡ Some x → ¬ IsStop x
not_stop zero x e = cc
not_stop (suc zero) x e = let same : New 0 1 ≡ x = cc in subst (λ y. ¬ IsStop y) same (λ s. s)
not_stop (suc (suc zero)) x e = let same : Goto 1 ≡ x = cc in subst (λ y. ¬ IsStop y) same (λ s. s)
not_stop (suc (suc (suc i))) x e = cc

never_stops : (End : EndMeaning) (c : Config) → ¬ Stops End allocating c
never_stops End c h = not_stop c.line h.0 h.1 (stops_is_stop End h.0 c h.2)

-- each line of the program has a successor
goes_on : (w i : ℕ) (c : Config) (x : Command) → 0 < w → counted_from_one allocating i ≡ Some x
    → (d : Config) × Goes x w c d
goes_on w zero c x pos e = absurd cc
goes_on w (suc zero) c x pos e =
    let same : New 0 1 ≡ x = cc in
    let d = next_line c (slice_set c.stack 0 (suc (greatest c))) (insert c.heap (suc (greatest c)) (replicate 1 0)) in
    let goes : Goes (New 0 1) w c d = (suc (greatest c), replicate 1 0, may_pick w c 1 pos, refl) in
    (d, subst (λ y. Goes y w c d) same goes)
goes_on w (suc (suc zero)) c x pos e =
    let same : Goto 1 ≡ x = cc in
    let goes : Goes (Goto 1) w c (jump c 1) = refl in
    (jump c 1, subst (λ y. Goes y w c (jump c 1)) same goes)
goes_on w (suc (suc (suc i))) c x pos e = absurd cc

never_halts_with : (End : EndMeaning) (w n : ℕ) (c : Config) → 0 < w → ¬ Halts End allocating w n c
never_halts_with End w zero c pos h = never_stops End c h
never_halts_with End w (suc n) c pos (inl h) = never_stops End c h
never_halts_with End w (suc n) c pos (inr r) =
    let next = goes_on w c.line c r.0 pos r.1 in never_halts_with End w n next.0 pos (r.3 next.0 next.1)

pub never_halts : (ds : List Definition) (rest : Cells) (w n : ℕ) (c : Config) → 0 < w
    → ¬ Halts (EndHolds ds rest) allocating w n c
never_halts ds rest = never_halts_with (EndHolds ds rest)

pub halts : (ds : List Definition) (rest : Cells) (w n : ℕ) (c : Config) → c.line ≡ 1
    → Halts (EndHolds ds rest) stopping w n c
halts ds rest w zero c l = (Stop, ap (counted_from_one stopping) l, tt)
halts ds rest w (suc n) c l = inl (Stop, ap (counted_from_one stopping) l, tt)

-- ---- an end

the_end : (bs : List SymbolicHeap) (c : Config) (x : Command) → c.line ≡ 1
    → counted_from_one (Ends bs ∷ []) c.line ≡ Some x → Ends bs ≡ x
the_end bs c x l at =
    let there : Some (Ends bs) ≡ Some x = sym (ap (counted_from_one (Ends bs ∷ [])) l) ∙ at in cc

at_the_end : (End : EndMeaning) (bs : List SymbolicHeap) (c : Config) → c.line ≡ 1 → Stops End (Ends bs ∷ []) c → End bs c
at_the_end End bs c l h = subst (λ x. StopsWith End x c) (sym (the_end bs c h.0 l h.1)) h.2

holds_there : (End : EndMeaning) (bs : List SymbolicHeap) (w n : ℕ) (c : Config) → c.line ≡ 1
    → Halts End (Ends bs ∷ []) w n c → End bs c
holds_there End bs w zero c l h = at_the_end End bs c l h
holds_there End bs w (suc n) c l (inl h) = at_the_end End bs c l h
holds_there End bs w (suc n) c l (inr r) = absurd (r.2.0 (subst IsStop (the_end bs c r.0 l r.1) tt))

pub end_holds : (ds : List Definition) (rest : Cells) (bs : List SymbolicHeap) (w n : ℕ) (c : Config) → c.line ≡ 1
    → Halts (EndHolds ds rest) (Ends bs ∷ []) w n c → EndHolds ds rest bs c
end_holds ds rest = holds_there (EndHolds ds rest)
