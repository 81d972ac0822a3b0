use Rattle.draw_top.proofs.ReadingBack.{quoted-read}
use Rattle.draw_top.proofs.laws.quoted_strings_read_back.Goals as goal

pub returns : goal.returns
returns c = quoted-read
