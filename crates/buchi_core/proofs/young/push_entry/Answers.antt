-- The entry that is pushed is trimmed, and the masks go on.
use Rattle.std.proofs.Common.{refl, ap, bit_and}
use Rattle.buchi_core.proofs.Left.{push_made, push_left}
use Rattle.buchi_core.proofs.young.push_entry.Goals as goal

pub returns-clause-entries : goal.returns-clause-entries
returns-clause-entries c =
    push_made c.args.young.now c.give.new.young _ c.args.parent c.args.set (bit_and c.args.set c.left_at.result) _
    (record {
      left = c.requires.left;
      is_kept = ap (bit_and c.args.set) c.left_at.ensures;
      gives = c.give.ensures.left;
      long = c.give.ensures.long;
      top = refl;
      masks = c.push.ensures.items;
      same = c.give.ensures.entries;
      items = c.push-2.ensures.items;
      parent_is = c.new.ensures.parent;
      set_is = c.new.ensures.set;
    })

pub returns-clause-left : goal.returns-clause-left
returns-clause-left c =
    push_left c.args.young.now c.give.new.young _ c.args.parent c.args.set (bit_and c.args.set c.left_at.result) _
    (record {
      left = c.requires.left;
      is_kept = ap (bit_and c.args.set) c.left_at.ensures;
      gives = c.give.ensures.left;
      long = c.give.ensures.long;
      top = refl;
      masks = c.push.ensures.items;
      same = c.give.ensures.entries;
      items = c.push-2.ensures.items;
      parent_is = c.new.ensures.parent;
      set_is = c.new.ensures.set;
    })
