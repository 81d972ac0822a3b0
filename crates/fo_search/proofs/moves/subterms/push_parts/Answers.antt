use Rattle.std.proofs.Common.{◌≡◌, ◌-◌, length, take, drop, arith}
use Rattle.std.proofs.lemmas.List.{take_all, length-drop}
use Rattle.fo_search.proofs.Onces.{part_added}
use Rattle.fo_search.proofs.moves.subterms.push_parts.Goals as goal

pub loop-k-preserved : goal.loop-k-preserved
loop-k-preserved c =
    let w = c.args.word.now in
    let k = c.loop-k.k in
    let all : take (length w - k) (drop k w) ≡ drop k w = take_all (length w - k) (drop k w)
    (let l = length-drop k w in omega (arith, l)) in
    part_added c.loop-k.words.items c.push_first.new.words.items w (take (length w - k) (drop k w))
    k _ c.loop-k-test.true all c.in_ok-push_first.ensures c.loop-k.invariant
