use Rattle.std.proofs.Common.{◌∙◌, ◌++◌, [], ◌∷◌, vec_len, ap, arith, sym}
use Rattle.script_reader.proofs.Growing.{closes}
use Rattle.script_reader.proofs.Unfit as unfit
use Rattle.script_reader.proofs.trees.reading.Building.closed.Goals as goal

pub returns-then-self-clause-takes : goal.returns-then-self-clause-takes
returns-then-self-clause-takes c to end ts = unfit.closed_begun c.args.from to end ts (vec_len c.args.self.now.open)
    c.args.self.now.begun c.if-self.true

pub returns-in-Some-clause-takes : goal.returns-in-Some-clause-takes
returns-in-Some-clause-takes c to end ts = unfit.closed c.args.from to end ts (vec_len c.args.self.now.open)
    (vec_len c.end_list.new.self.open)
    c.args.self.now.begun c.end_list.new.self.begun c.if-self.false c.end_list.ensures.begun
    (let e = ap vec_len c.end_list.ensures.«open» in let h = c.in-Some.ensures.len in omega (arith, e, h))

pub returns-in-Some-clause-adds : goal.returns-in-Some-clause-adds
returns-in-Some-clause-adds c to tokens partial =
    closes c.args.self.now.nodes.items c.end_list.new.self.nodes.items c.args.self.now.open.items
    c.end_list.new.self.open.items c.in-Some.list (vec_len c.args.self.now.nodes) c.args.from to
    c.args.self.now.nodes.ok.0
    (c.in-Some.ensures.items
    ∙ ap (λ v. v.items ++ c.in-Some.list ∷ []) (sym c.end_list.ensures.«open»))
    c.end_list.ensures.ends tokens partial

pub returns-in-None-clause-takes : goal.returns-in-None-clause-takes
returns-in-None-clause-takes c to end ts = unfit.closed_none c.args.from to end ts (vec_len c.args.self.now.open)
    c.args.self.now.begun c.if-self.false c.in-None.ensures.cases.0
