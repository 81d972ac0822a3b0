use Rattle.std.proofs.Common.{◌≡◌, ℕ, List, Ok, map, ap, subst}
use Rattle.std.specs.Prelude.{IfOk}
use Rattle.cyc_lex.specs.Lexing.{tokens_of}
use Rattle.proof_syntax.specs.Trees.{File, Node, file_of}
use Rattle.proof_file.specs.Written.{tree_of}
use Rattle.proof_picture.specs.Carried.{flags_of}
use Rattle.proof_picture.specs.Pieces.{pieces_of}
use Rattle.proof_picture.proofs.Alone.{all_fit, file_spelled}
use Rattle.proof_picture.specs.NamedLabels.{named_labels_from}
use Rattle.proof_picture.specs.Naming.{naming_of}
use Rattle.proof_picture.proofs.names.labels.labels_of_file.Goals as goal

pub labels_of_trees-requires : goal.labels_of_trees-requires
labels_of_trees-requires c = all_fit (file_of c.in-Ok.tree) c.in-Ok.ensures.exact.0

pub returns-in-Ok : goal.returns-in-Ok
returns-in-Ok c =
    let f = c.args.file.now in
    let told = subst (λ (bs : List ℕ). tokens_of bs ≡ Ok c.in_ok-tokens.tokens)
    c.deref.ensures.value c.in_ok-tokens.ensures.0 in
    let words = file_spelled f c.in_ok-text.text.items c.in_ok-tokens.tokens c.in_ok-text.ensures.text told in
    let same = ap (λ (t : File). t.nodes) (c.in-Ok.ensures.again (tree_of f.version f.defs.list f.program f.nodes)
    f.fits words) in
    subst (λ (ns : List Node). IfOk c.labels_of_trees.result
    (λ v. map pieces_of v.items ≡ named_labels_from (naming_of c.args.naming.now) (map flags_of c.args.kept.now)
    (map flags_of c.args.flags.now.items) 0 ns)) same c.labels_of_trees.ensures
