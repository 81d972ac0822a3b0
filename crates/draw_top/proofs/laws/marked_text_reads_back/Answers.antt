use Rattle.draw_top.proofs.ReadingBack.{marked-read, marked-no-tag}
use Rattle.draw_top.proofs.laws.marked_text_reads_back.Goals as goal

pub returns-clause-tags : goal.returns-clause-tags
returns-clause-tags c = marked-no-tag

pub returns-clause-again : goal.returns-clause-again
returns-clause-again c = marked-read
