use Rattle.rule_book.proofs.Shorts.{rule_short, link_short}
use Rattle.rule_book.proofs.limits.reasons_are_short.Goals as goal

pub returns : goal.returns
returns c = record {
  rules = λ most ds lines j rule ps bounded d h e. rule_short most bounded ds lines j ps d h rule e;
  links = link_short;
}
