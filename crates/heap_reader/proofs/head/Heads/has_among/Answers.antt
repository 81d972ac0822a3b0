use Rattle.std.proofs.Common.{◌∙◌, ap, nat_lt}
use Rattle.heap_reader.proofs.Indexes.{among_first}
use Rattle.heap_reader.proofs.head.Heads.has_among.Goals as goal

pub returns : goal.returns
returns c = ap (λ p. nat_lt p c.args.n) c.place_of.ensures.value
    ∙ among_first c.args.self.now c.args.name.now c.args.n c.requires
