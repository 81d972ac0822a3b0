-- What a contract sees of marks.
use Rattle.fo_syntax.specs.declared.terms.bracket.Mark.{Mark as MarkTree}
use Rattle.fo_syntax.specs.declared.terms.bracket.Mark.TheVariants as marks
use Rattle.fo_syntax.specs.Trees.{sign_of}
use Rattle.fo_syntax.specs.Brackets.{Mark, Leaf, Opening, Closing}

abbrev pub mark_seen : MarkTree → Mark
mark_seen (marks.Leaf s) = Leaf (sign_of s)
mark_seen (marks.Opening name) = Opening name.now
mark_seen marks.Closing = Closing
