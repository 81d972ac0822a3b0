use Rattle.std.proofs.Common.{◌++◌, false, Some, Option, List, ℕ, ap, subst, refl}
use Rattle.std.specs.Prelude.{map, is_some, IsTrue, IfSome}
use Rattle.piecewise_lex.specs.declared.run.KnownText.{KnownText}
use Rattle.piecewise_lex.specs.Owned.{owned}
use Rattle.piecewise_lex.specs.Runs.{Lengthens}
use Rattle.piecewise_lex.proofs.RunLaws.{known-comment}
use Rattle.piecewise_lex.proofs.Takes.{run-taking}
use Rattle.piecewise_lex.proofs.batch.take_piece.Goals as goal

pub returns-in-Some : goal.returns-in-Some
returns-in-Some c =
    let bytes = c.args.waiting.items ++ c.args.piece.now in
    let known = c.in-Some.known in
    let longer = subst (Lengthens bytes) c.in-Some.is
    (subst (λ (w : List ℕ). Lengthens (w ++ c.args.piece.now) c.in_ok-still.still)
    c.deref.ensures.value c.in_ok-still.ensures.longer) in
    let only = subst (λ (o : Option KnownText). IfSome o (λ _. IsTrue (is_some c.args.known)))
    c.in-Some.is c.in_ok-still.ensures.only in
    run-taking c.args.place c.args.comment bytes known
    (record {
      tokens = c.new.result;
      place = c.args.place;
      comment = false;
      waiting = c.extend_from_slice.new.self;
      known = Some known;
    }) (known-comment c.args.comment c.args.waiting.items c.args.known c.requires.known only)
    longer (ap (map owned) c.new.ensures.items) refl refl c.in_ok-extend_from_slice.ensures.items refl
