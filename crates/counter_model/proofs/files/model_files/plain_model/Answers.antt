use Rattle.std.proofs.Common.{◌≡◌, ap, ◌∙◌}
use Rattle.pred_defs.specs.Book.{DefinitionBook}
use Rattle.counter_model.proofs.ModelTrees.{file_fits, file_flawless}
use Rattle.counter_model.proofs.files.model_files.plain_model.Goals as goal

pub invariant_of-model : goal.invariant_of-model
invariant_of-model c =
    let same : c.set_most.new.self.list ≡ c.args.problem.now.defs.list = ap (λ (b : DefinitionBook). b.list)
    c.set_most.ensures ∙ ap (λ (b : DefinitionBook). b.list) c.in_ok-defs.ensures.cases in record {
      limit = ap (λ (b : DefinitionBook). b.most) c.set_most.ensures ∙ c.limits.ensures.value;
      fits = file_fits c.args.problem.now c.args.antecedent.now c.args._disjuncts.now c.args.stack c.args.heap
          c.requires.goal c.requires.plain c.for_version-version.result c.set_most.new.self.list c.in_ok-ask.ask
          c.for_version-version.ensures same c.in_ok-ask.ensures.cases;
      flawless = file_flawless c.args.problem.now c.args.antecedent.now c.args._disjuncts.now c.args.stack c.args.heap
          c.requires.goal c.requires.plain c.for_version-version.result c.set_most.new.self.list c.in_ok-ask.ask
          c.for_version-version.ensures same c.in_ok-ask.ensures.cases;
    }
