use Rattle.std.proofs.Common.{◌≡◌, List, ℕ, ◌++◌, sym, ap, ◌∙◌, append_assoc}
use Rattle.std.proofs.lemmas.List.{take-append-drop}
use Rattle.file_reader.specs.Helds.{parts_of}
use Rattle.file_reader.proofs.HeldLaws.{kept-on}
use Rattle.file_reader.proofs.feeding.feed.Goals as goal

pub parts-preserved : goal.parts-preserved
parts-preserved c =
    let h = c.parts.invariant in
    let now = c.split_at.result.0.now in
    let later = c.split_at.result.1.now in
    let both : now ++ later ≡ c.parts.rest.now = (λ i. c.split_at.ensures.front i ++ c.split_at.ensures.back i)
    ∙ take-append-drop 65536 c.parts.rest.now in (
      h.0 ++ now,
      h.1 ∙ ap (λ (w : List ℕ). h.0 ++ w) (sym both) ∙ sym (append_assoc h.0 now later),
      kept-on (parts_of c.args.held) h.0 now c.parts.held c.in_ok-held.held h.2 c.in_ok-held.ensures.kept,
      λ lost.
          absurd (c.in_ok-held.ensures.lost (h.3 lost)),
    )
