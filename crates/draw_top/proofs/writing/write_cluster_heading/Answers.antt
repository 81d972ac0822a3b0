use Rattle.std.proofs.Common.{◌≡◌, List, ◌++◌, append_assoc, map, ap, ◌∙◌, subst}
use Rattle.std.specs.Prelude.{codes, decimal, OnOk}
use Rattle.draw_top.specs.declared.graph.Attribute.{Attribute}
use Rattle.draw_top.specs.Graphs.{set_of}
use Rattle.draw_top.specs.Texts.{bracketed}
use Rattle.draw_top.proofs.ReadingBack.{three_parts}
use Rattle.draw_top.proofs.writing.write_cluster_heading.Goals as goal

pub returns : goal.returns
returns c =
    let number = decimal c.args.cluster.now.number in
    let begun = c.in_ok-number.ensures ∙ ap (λ s. s ++ number) c.in_ok-text.ensures
    ∙ append_assoc c.args.out.now (codes "subgraph cluster_") number in
    let written = subst (λ (xs : List Attribute). OnOk c.write_attributes.result
    (c.write_attributes.new.out ≡ c.text-2.new.self ++ bracketed (map set_of xs)))
    c.deref.ensures.value c.write_attributes.ensures in
    three_parts c.write_attributes.result c.args.out.now c.number.new.self c.text-2.new.self c.write_attributes.new.out
    (codes "subgraph cluster_" ++ number) (codes " {\ngraph")
    (bracketed (map set_of c.args.cluster.now.attributes.items)) begun c.in_ok-text-2.ensures written
