use Rattle.std.proofs.Common.{◌≡◌, ◌+◌, arith, length-append, ◌++◌, None, Some, ◌∙◌, sym, ap, subst, refl}
use Rattle.piecewise_lex.specs.Feeding.{Parts, tokens_from, taken_in}
use Rattle.piecewise_lex.specs.Batches.{IsTaking, IsToldOf}
use Rattle.piecewise_lex.proofs.Takes.{small-place, count-parts, fed-parts, fault-parts}
use Rattle.piecewise_lex.proofs.lexer.Lexer.feed.Goals as goal

pub invariant_of-self : goal.invariant_of-self
invariant_of-self c =
    let small = small-place c.self.inside.place c.self.inside.comment _ c.in-Ok.batch c.in-Ok.ensures c.self.invariant.0
    c.self.invariant.1 in
    (small.0, small.1, c.in-Ok.ensures.known)

pub returns-in-Ok-clause-answer : goal.returns-in-Ok-clause-answer
returns-in-Ok-clause-answer c =
    let old = c.args.self.now in
    let t = c.in-Ok.batch in
    let unmet : old.met ≡ None = ap (λ (s : Parts). s.met) (sym c.self.view_is) ∙ c.in-None.is in
    let here : IsTaking c.self.inside.place c.self.inside.comment (c.self.inside.waiting.items ++ c.args.piece.now)
    t = rw (← c.replace-waiting.ensures.value) c.in-Ok.ensures in
    let there = subst (λ (s : Parts). IsTaking s.place s.comment (s.waiting ++ c.args.piece.now) t) c.self.view_is here
    in
    (fed-parts old _ c.args.piece.now t unmet (ap (λ m. record
    { waiting = t.waiting.items; place = t.place; comment = t.comment; met = m })
    (ap (λ (s : Parts). s.met) c.self.view_is)) there).0

pub returns-in-Ok-clause-law : goal.returns-in-Ok-clause-law
returns-in-Ok-clause-law c =
    let old = c.args.self.now in
    let t = c.in-Ok.batch in
    let unmet : old.met ≡ None = ap (λ (s : Parts). s.met) (sym c.self.view_is) ∙ c.in-None.is in
    let here : IsTaking c.self.inside.place c.self.inside.comment (c.self.inside.waiting.items ++ c.args.piece.now)
    t = rw (← c.replace-waiting.ensures.value) c.in-Ok.ensures in
    let there = subst (λ (s : Parts). IsTaking s.place s.comment (s.waiting ++ c.args.piece.now) t) c.self.view_is here
    in
    (fed-parts old _ c.args.piece.now t unmet (ap (λ m. record
    { waiting = t.waiting.items; place = t.place; comment = t.comment; met = m })
    (ap (λ (s : Parts). s.met) c.self.view_is)) there).1

pub returns-in-Err-clause-law : goal.returns-in-Err-clause-law
returns-in-Err-clause-law c =
    let old = c.args.self.now in
    let f = c.in-Err.fault in
    let unmet : old.met ≡ None = ap (λ (s : Parts). s.met) (sym c.self.view_is) ∙ c.in-None.is in
    let here : IsToldOf f (tokens_from c.self.inside.place c.self.inside.comment
    (taken_in c.self.inside.comment (c.self.inside.waiting.items ++ c.args.piece.now))) = rw
    (← c.replace-waiting.ensures.value) c.in-Err.ensures in
    let there = subst (λ (s : Parts). IsToldOf f (tokens_from s.place s.comment
    (taken_in s.comment (s.waiting ++ c.args.piece.now)))) c.self.view_is here in
    (fault-parts old (record {
      waiting = c.replace-waiting.new.dest.items;
      place = c.self.inside.place;
      comment = c.self.inside.comment;
      met = Some f;
    }) c.args.piece.now f unmet refl there).1

pub returns-in-Ok-clause-count : goal.returns-in-Ok-clause-count
returns-in-Ok-clause-count c =
    let t = c.in-Ok.batch in
    let here : IsTaking c.self.inside.place c.self.inside.comment (c.self.inside.waiting.items ++ c.args.piece.now)
    t = rw (← c.replace-waiting.ensures.value) c.in-Ok.ensures in
    let there = subst (λ (s : Parts). IsTaking s.place s.comment (s.waiting ++ c.args.piece.now) t) c.self.view_is here
    in
    count-parts c.args.self.now.place c.args.self.now.comment (c.args.self.now.waiting ++ c.args.piece.now) t there
    ∙ ap (λ n. c.args.self.now.place.offset + n) (length-append c.args.self.now.waiting c.args.piece.now)

pub returns-in-Ok-clause-within : goal.returns-in-Ok-clause-within
returns-in-Ok-clause-within c =
    let t = c.in-Ok.batch in
    let here : IsTaking c.self.inside.place c.self.inside.comment (c.self.inside.waiting.items ++ c.args.piece.now)
    t = rw (← c.replace-waiting.ensures.value) c.in-Ok.ensures in
    let there = subst (λ (s : Parts). IsTaking s.place s.comment (s.waiting ++ c.args.piece.now) t) c.self.view_is here
    in
    let all = count-parts c.args.self.now.place c.args.self.now.comment (c.args.self.now.waiting ++ c.args.piece.now)
    t there ∙ ap (λ n. c.args.self.now.place.offset + n) (length-append c.args.self.now.waiting c.args.piece.now) in
    omega (arith, all)
