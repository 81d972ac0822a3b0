use Rattle.fo_search.proofs.Onces.{both_added}
use Rattle.fo_search.proofs.moves.subterms.subterms.Goals as goal

pub returns : goal.returns
returns c =
    both_added c.args.sequent.now c.new-words.result.items c.push_parts_of_atoms.new.words.items
    c.push_parts_of_atoms-2.new.words.items c.as_slice.result.now c.as_slice-2.result.now c.new-words.ensures.items
    c.as_slice.ensures c.as_slice-2.ensures c.in_ok-push_parts_of_atoms.ensures
    c.in_ok-push_parts_of_atoms-2.ensures
