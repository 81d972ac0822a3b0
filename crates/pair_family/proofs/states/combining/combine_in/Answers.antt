use Rattle.std.proofs.Common.{◌≡◌, ◌++◌, List, ℕ, IfOk, ◌∙◌, subst}
use Rattle.std.specs.Prelude.{slice_index}
use Rattle.pair_family.specs.Labels.{joined_labels, label_pairs, cell_pairs, labels_at, said_by, IfApart, pairs_at}
use Rattle.pair_family.specs.Labels.{numbers_at}
use Rattle.pair_family.proofs.states.combining.combine_in.Goals as goal

pub returns : goal.returns
returns c =
    let start = c.args.start.now in
    let b = c.args.state.now in
    let places = c.args.places.now in
    let p = c.args.pair.now in
    let kept = c.args.kept.now in
    let ds : List (ℕ × ℕ) = b.differ ++ pairs_at places p.differ in
    let now : List ℕ = joined_labels start (b.same ++ pairs_at places p.same) in
    let D = λ (ls : List ℕ) (all : List (ℕ × ℕ)) (cs : List ℕ). IfOk c.tell.result
    (IfApart all (said_by (labels_at ls kept) all cs)) in
    let s1 : c.same.result.now ≡ b.same = c.same.ensures in
    let s2 : c.same-2.result.now ≡ p.same = c.same-2.ensures in
    let labels : c.join_both.new.labels.items ≡ now = c.in_ok-join_both.ensures
    ∙ (λ i. joined_labels start (s1 i ++ pairs_at places (s2 i))) in
    let cs : List ℕ = b.cells ++ numbers_at places p.cells in
    let c1 : c.cells.result.now ≡ b.cells = c.cells.ensures in
    let c2 : c.cells-2.result.now ≡ p.cells = c.cells-2.ensures in
    let cells : c.fill_numbers.new.out.items ≡ cs = c.in_ok-fill_numbers.ensures
    ∙ (λ i. c1 i ++ numbers_at places (c2 i)) in
    let stated : List (ℕ × ℕ) = label_pairs now ds ++ cell_pairs (slice_index now 0) (labels_at now cs) in
    let e1 : c.deref.result.now ≡ now = c.deref.ensures.value ∙ labels in
    let e2 : c.deref-2.result.now ≡ cs = c.deref-2.ensures.value ∙ cells in
    let addresses : c.fill_labels.new.out.items ≡ labels_at now cs = c.in_ok-fill_labels.ensures
    ∙ (λ i. labels_at (e1 i) (e2 i)) in
    let e3 : c.deref-3.result.now ≡ now = c.deref-3.ensures.value ∙ labels in
    let e4 : c.deref-4.result.now ≡ labels_at now cs = c.deref-4.ensures.value ∙ addresses in
    let d1 : c.differ.result.now ≡ b.differ = c.differ.ensures in
    let d2 : c.differ-2.result.now ≡ p.differ = c.differ-2.ensures in
    let all : c.fill_differences.new.out.items ≡ stated = c.in_ok-fill_differences.ensures
    ∙ (λ i. label_pairs (e3 i) (d1 i ++ pairs_at places (d2 i)) ++ cell_pairs (slice_index (e3 i) 0) (e4 i)) in
    subst (λ z. D z stated (labels_at now cs)) (c.deref-5.ensures.value ∙ labels)
    (subst (λ z. D c.deref-5.result.now z (labels_at now cs)) (c.deref-6.ensures.value ∙ all)
    (subst (λ z. D c.deref-5.result.now c.deref-6.result.now z) (c.deref-7.ensures.value ∙ addresses) c.tell.ensures))
