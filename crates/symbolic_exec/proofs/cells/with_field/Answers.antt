use Rattle.std.proofs.Common.{◌≡◌, ℕ, ◌-◌, ◌<◌, ◌++◌, List, take, length, sym, ap, ◌∙◌}
use Rattle.std.proofs.Math.ListN.{set}
use Rattle.std.proofs.lemmas.List.{set-append_left, length-set, take_at}
use Rattle.symbolic_exec.proofs.cells.with_field.Goals as goal

set_in_front : {X : Type 0} (vs us zs : List X) (n i : ℕ) (x : X) → vs ≡ us → n ≡ length us → i < length us
    → take n (set (vs ++ zs) i x) ≡ set us i x
set_in_front vs us zs n i x same size within =
    ap (λ ws. take n (set (ws ++ zs) i x)) same ∙ ap (take n) (set-append_left us zs i x within)
    ∙ take_at (set us i x) zs n (length-set us i x ∙ sym size)

pub returns : goal.returns
returns c =
    c.from_slice.ensures ∙ set_in_front c.copy_from_slice.new.self c.args.fields.now _ c.len-count.result (c.args.k - 1)
    c.args.t (c.copy_from_slice.ensures.after ∙ c.as_slice.ensures) c.len-count.ensures.value c.requires.within
