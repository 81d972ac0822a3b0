use Rattle.std.specs.Prelude.{codes}
use Rattle.draw_top.specs.Quoting.{quoted}
use Rattle.draw_top.proofs.ReadingBack.{three_parts}
use Rattle.draw_top.proofs.writing.begin_bold.Goals as goal

pub returns : goal.returns
returns c = three_parts c.text-2.result c.args.out.now c.text.new.self c.quoted.new.self c.text-2.new.self
    (codes "<FONT COLOR=") (quoted c.args.color.now) (codes "><B>")
    c.in_ok-text.ensures c.in_ok-quoted.ensures c.text-2.ensures
