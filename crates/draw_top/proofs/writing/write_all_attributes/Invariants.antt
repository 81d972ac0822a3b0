use Rattle.std.proofs.Common.{◌≡◌, ◌++◌, drop, map}
use Rattle.draw_top.specs.Graphs.{set_of}
use Rattle.draw_top.specs.Texts.{sets_text}
use Rattle.draw_top.proofs.writing.write_all_attributes.Given as goal

-- The text so far and the texts of what is left.
abbrev pub invariant-loop-attribute : goal.invariant-loop-attribute
invariant-loop-attribute l = l.out ++ sets_text (map set_of (drop l.attribute-index l.attributes)) ≡ l.fn.out
    ++ sets_text (map set_of l.attributes)
