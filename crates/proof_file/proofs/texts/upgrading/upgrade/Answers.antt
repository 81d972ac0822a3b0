use Rattle.std.proofs.Common.{◌≡◌, ap, subst, sym, ◌∙◌, true}
use Rattle.pred_defs.specs.Book.{DefinitionBook}
use Rattle.proof_syntax.specs.Grammar.{file}
use Rattle.proof_file.specs.Flaws.{file_flaw}
use Rattle.proof_file.specs.Readable.{all_have_few_cases}
use Rattle.proof_file.specs.Written.{tree_of}
use Rattle.proof_file.proofs.Wider.{file_wider, fits_wider}
use Rattle.proof_file.proofs.texts.upgrading.upgrade.Goals as goal

pub invariant_of-result : goal.invariant_of-result
invariant_of-result c =
    let f = c.args.file in
    let same = sym (ap (λ (book : DefinitionBook). book.list) c.set_most.ensures) in
    let version = c.upgraded-version.ensures in
    record {
      some = f.some;
      few = f.few;
      readable = f.readable;
      universal = f.universal;
      at_lines = f.at_lines;
      cases = subst (λ ds. all_have_few_cases ds ≡ true) same f.cases;
      limit = ap (λ (book : DefinitionBook). book.most) c.set_most.ensures ∙ c.limits.ensures.value;
      fits = subst (λ (x : _). x) (λ i. file.fits (tree_of (sym version i) (same i) f.program f.nodes))
          (fits_wider f.version f.defs.list f.program f.nodes f.fits);
      flawless = (λ i. file_flaw (tree_of (version i) (sym same i) f.program f.nodes))
          ∙ file_wider f.version f.defs.list f.program f.nodes f.flawless;
    }
