use Rattle.std.proofs.Common.{rules, ◌∙◌, ◌+◌, List, vec_len, ap, sym, length, drop, arith}
use Rattle.script_reader.specs.Tokens.{Placed, tokens_from, with_piece}
use Rattle.script_reader.specs.Faults.{unfit_from}
use Rattle.script_reader.proofs.Skipping.{no_token, tokens-ended, tokens-here}
use Rattle.script_reader.proofs.Growing.{building_begun, building_ended, building_more, building_same, none_listed}
use Rattle.script_reader.proofs.Built.{none_open, refused_built, some_open}
use Rattle.script_reader.proofs.trees.reading.build.Goals as goal

pub returns-in-Err-clause-built : goal.returns-in-Err-clause-built
returns-in-Err-clause-built c =
    let bytes = c.args.bytes.now in
    let at = c.pieces.at in
    let r = c.piece_from-piece.result in
    let rest : List Placed = tokens_from (at + 1 + r.1) 0 (drop (at + 1 + r.1) bytes) in
    let e = tokens-here bytes at r c.pieces-test.true c.piece_from-piece.ensures.value c.piece_from-piece.ensures.within
    ∙ ap (λ p. with_piece p at r.1 rest) c.in-Token.is in
    refused_built bytes (vec_len c.pieces.building.open) _ c.pieces.building.begun _
    (record { kind = c.in-Token.kind; from = at; to = at + 1 + r.1 }) rest c.in-Err.fault c.in-Err.ensures.takes
    (ap (unfit_from (length bytes) (vec_len c.pieces.building.open) c.pieces.building.begun) (sym e)
    ∙ c.pieces.invariant.same)

pub pieces-preserved-in-Ok : goal.pieces-preserved-in-Ok
pieces-preserved-in-Ok c =
    let bytes = c.args.bytes.now in
    let at = c.pieces.at in
    let r = c.piece_from-piece.result in
    let rest : List Placed = tokens_from (at + 1 + r.1) 0 (drop (at + 1 + r.1) bytes) in
    let e = tokens-here bytes at r c.pieces-test.true c.piece_from-piece.ensures.value c.piece_from-piece.ensures.within
    ∙ ap (λ p. with_piece p at r.1 rest) c.in-Token.is in
    record {
      within = c.piece_from-piece.ensures.within;
      same =
          sym (c.in-Ok.ensures.takes (length bytes) rest)
          ∙ ap (unfit_from (length bytes) (vec_len c.pieces.building.open) c.pieces.building.begun) (sym e)
          ∙ c.pieces.invariant.same;
      spelled = building_more bytes _ _ _ _ at (at + 1 + r.1) _ e c.in-Ok.ensures.adds c.pieces.invariant.spelled;
    }

pub pieces-preserved : goal.pieces-preserved
pieces-preserved c =
    let bytes = c.args.bytes.now in
    let at = c.pieces.at in
    let r = c.piece_from-piece.result in
    let rest : List Placed = tokens_from (at + 1 + r.1) 0 (drop (at + 1 + r.1) bytes) in
    let e = tokens-here bytes at r c.pieces-test.true c.piece_from-piece.ensures.value c.piece_from-piece.ensures.within
    ∙ no_token r.0 at r.1 rest c.in_default.not-Token in
    record {
      within = c.piece_from-piece.ensures.within;
      same = ap (unfit_from (length bytes) (vec_len c.pieces.building.open) c.pieces.building.begun) (sym e)
          ∙ c.pieces.invariant.same;
      spelled = building_same bytes _ _ at (at + 1 + r.1) e c.pieces.invariant.spelled;
    }

pub returns-then-not-is_empty-clause-built : goal.returns-then-not-is_empty-clause-built
returns-then-not-is_empty-clause-built c =
    let e = tokens-ended c.args.bytes.now c.pieces.at (omega (arith, c.pieces-test.false)) in
    sym c.pieces.invariant.same ∙ ap (unfit_from (length c.args.bytes.now) (vec_len c.pieces.building.open)
    c.pieces.building.begun) e
    ∙ some_open (length c.args.bytes.now) (vec_len c.pieces.building.open)
    c.pieces.building.begun c.is_empty.result c.is_empty.ensures c.if-not-is_empty.true

pub returns-clause-built : goal.returns-clause-built
returns-clause-built c =
    let e = tokens-ended c.args.bytes.now c.pieces.at (omega (arith, c.pieces-test.false)) in
    sym c.pieces.invariant.same ∙ ap (unfit_from (length c.args.bytes.now) (vec_len c.pieces.building.open)
    c.pieces.building.begun) e
    ∙ none_open (length c.args.bytes.now) (vec_len c.pieces.building.open)
    c.pieces.building.begun c.is_empty.result c.is_empty.ensures c.if-not-is_empty.false

pub returns-clause-spelled : goal.returns-clause-spelled
returns-clause-spelled c =
    let no_list = none_listed c.pieces.building.open.items (vec_len c.pieces.building.open) c.is_empty.result
    c.pieces.building.open.ok.0 c.is_empty.ensures c.if-not-is_empty.false in
    building_ended c.args.bytes.now _ _ c.pieces.at no_list
    (tokens-ended c.args.bytes.now c.pieces.at (omega (arith, c.pieces-test.false))) c.pieces.invariant.spelled

pub pieces-init : goal.pieces-init
pieces-init c = record {
  within = search rules;
  same = search rules;
  spelled = building_begun c.args.bytes.now _ _ (search rules) (search rules);
}
