use Rattle.std.proofs.Common.{◌≡◌, ◌+◌, ◌*◌, ◌<◌, ◌≤◌, ◌++◌, ℕ, [], length, drop, get_or, refl, sym, ap, subst, ◌∙◌}
use Rattle.std.proofs.Common.{arith}
use Rattle.std.specs.Prelude.{map, IfSome}
use Rattle.std.proofs.lemmas.List.{append-nil}
use Rattle.std.proofs.lemmas.Result.{err_from_is_err_and}
use Rattle.cyc_grammar.proofs.WrittenTexts.{left-at, none-at}
use Rattle.heap_reader.proofs.NoFlaw.{neither}
use Rattle.fo_syntax.specs.declared.terms.tree.SignTree.TheVariants as signs
use Rattle.fo_syntax.specs.Trees.{sign_of}
use Rattle.fo_file.specs.Arguments.{numbers, numbers_behind, argument_flaw, until_ninth}
use Rattle.fo_file.specs.AtomFlaws.{signs_flaw}
use Rattle.fo_file.proofs.NextNinth.{still-ahead}
use Rattle.fo_file.proofs.Walks.{passed, stepped, faulty, all-stepped, room-first}
use Rattle.fo_file.proofs.walk.term_walk.walk_signs.Goals as goal

pub loop-n-init : goal.loop-n-init
loop-n-init c =
    let ns = numbers c.args.arguments in
    let told = sym (ap until_ninth (append-nil ns)) ∙ c.ninth_behind-ninth.ensures.counts [] refl in
    let terms = ap (λ j. signs_flaw c.args.names.now c.args.scope ns j c.args.from.token c.args.limit
    (map sign_of c.args.signs.now) c.args.places.now) (omega arith) in
    ((ns, (told, terms)), (c.requires.room, c.ninth_behind-ninth.ensures.near 0 tt))

pub overflow_add-at : goal.overflow_add-at
overflow_add-at c =
    let lt : c.loop-n.n + 1 < length c.args.places.now = omega (arith, c.loop-n-test.true, c.requires.each) in
    let h = room-first _ _ _ _ _ _ (left-at c.args.places.now c.loop-n.n 0 (omega (arith, lt)))
    (left-at c.args.places.now (c.loop-n.n + 1) 0 lt) c.loop-n.invariant.1.0 in
    omega (arith, h.0)

pub check_sign-requires : goal.check_sign-requires
check_sign-requires c =
    let lt : c.loop-n.n + 1 < length c.args.places.now = omega (arith, c.loop-n-test.true, c.requires.each) in
    let h = room-first _ _ _ _ _ _ (left-at c.args.places.now c.loop-n.n 0 (omega (arith, lt)))
    (left-at c.args.places.now (c.loop-n.n + 1) 0 lt) c.loop-n.invariant.1.0 in
    omega (arith, h.0)

pub ninth_behind-ninth-requires-in-loop-n : goal.ninth_behind-ninth-requires-in-loop-n
ninth_behind-ninth-requires-in-loop-n c =
    let ns = c.loop-n.invariant.0.0 in
    let told = c.loop-n.invariant.0.1.0 in
    let at = c.args.from.token + get_or c.args.places.now c.loop-n.n 0 in
    let free = passed c.args.names.now c.args.scope (c.args.from.terms + c.loop-n.n) at c.argument_limit-here.result
    (sign_of (get_or c.args.signs.now c.loop-n.n (signs.Variable 0))) c.in_ok-check_sign.ensures in
    let few = free.1 in
    still-ahead ns c.loop-n.ninth at (c.loop-n.n + 1) told
    (neither c.loop-n.limit (argument_flaw ns at) (sym (c.argument_limit-here.ensures ns told) ∙ free.0)).1
    (omega arith) c.loop-n.invariant.1.1

pub returns-in_err-check_sign : goal.returns-in_err-check_sign
returns-in_err-check_sign c =
    let lt : c.loop-n.n + 1 < length c.args.places.now = omega (arith, c.loop-n-test.true, c.requires.each) in
    let left = ap (map sign_of) (left-at c.args.signs.now c.loop-n.n (signs.Variable 0) c.loop-n-test.true) in
    let place = left-at c.args.places.now c.loop-n.n 0 (omega (arith, lt)) in
    let p = err_from_is_err_and c.from_residual.result c.from_residual.ensures.1 in
    let ns = c.loop-n.invariant.0.0 in
    let here = c.argument_limit-here.ensures ns c.loop-n.invariant.0.1.0 in
    rw (p.1, p.2) (faulty c.args.names.now c.args.scope ns (c.args.from.terms + c.loop-n.n)
    c.args.from.token c.loop-n.limit c.argument_limit-here.result _ _ _ _ _ _ _ c.in_err-check_sign.field-0.0 left
    place here c.in_err-check_sign.ensures c.loop-n.invariant.0.1.1)

pub loop-n-preserved : goal.loop-n-preserved
loop-n-preserved c =
    let lt : c.loop-n.n + 1 < length c.args.places.now = omega (arith, c.loop-n-test.true, c.requires.each) in
    let left = ap (map sign_of) (left-at c.args.signs.now c.loop-n.n (signs.Variable 0) c.loop-n-test.true) in
    let place = left-at c.args.places.now c.loop-n.n 0 (omega (arith, lt)) in
    let h = room-first _ _ _ _ _ _ place (left-at c.args.places.now (c.loop-n.n + 1) 0 lt) c.loop-n.invariant.1.0 in
    let ns = c.loop-n.invariant.0.0 in
    let told = c.loop-n.invariant.0.1.0 in
    let here = c.argument_limit-here.ensures ns told in
    let next = sym (ap (λ (a : ℕ). until_ninth (numbers a ++ drop 1 ns)) c.arguments_of.ensures)
    ∙ c.ninth_behind-ninth-in-loop-n.ensures.counts ns told in
    let more : 8 * (c.loop-n.n + 1) + 8 ≡ 8 * (c.loop-n.n + 1 + 1) = omega arith in
    let near = subst (λ (m : ℕ). IfSome c.ninth_behind-ninth-in-loop-n.result (λ t. t ≤ m)) more
    (c.ninth_behind-ninth-in-loop-n.ensures.near (8 * (c.loop-n.n + 1)) c.loop-n.invariant.1.1) in
    let rest = stepped c.args.names.now c.args.scope ns c.args.from.terms c.loop-n.n c.args.from.token c.loop-n.limit
    c.argument_limit-here.result _ _ _ _ _ _ _ left place here c.in_ok-check_sign.ensures c.loop-n.invariant.0.1.1
    in
    ((numbers_behind (sign_of (get_or c.args.signs.now c.loop-n.n (signs.Variable 0))) ns, (next, rest)), (h.1, near))

pub returns : goal.returns
returns c = all-stepped c.args.names.now c.args.scope c.loop-n.invariant.0.0 _ c.args.from.token c.loop-n.limit _ _ _
    (ap (map sign_of) (none-at c.args.signs.now c.loop-n.n (omega (arith, c.loop-n-test.false, c.loop-n.auto))))
    c.loop-n.invariant.0.1.1
