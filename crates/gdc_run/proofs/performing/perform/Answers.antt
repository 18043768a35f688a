-- What `calc` gives is what the command gives, and so is the work of `trial`.
use Rattle.std.proofs.Common.{◌≡◌, sym, subst}
use Rattle.verdict_phases.specs.Phases.{Follows}
use Rattle.gdc_words.specs.declared.commands.Command.{Command}
use Rattle.gdc_words.specs.declared.commands.Command.TheVariants.{Calc, Trial}
use Rattle.gdc_run.specs.Verdict.{CommandGives}
use Rattle.gdc_run.proofs.Work.{calc_within, trial_within}
use Rattle.gdc_run.proofs.performing.perform.Goals as goal

pub returns-in-Calc-clause-follows : goal.returns-in-Calc-clause-follows
returns-in-Calc-clause-follows g c =
    let is : c.args.asked.now.command ≡ Calc = cc (c.command.ensures, c.in-Calc.is) in
    subst (λ (own : Command). Follows (CommandGives (g.H.Shelf.held c.args.shelf.now) own c.args.asked.now) c.calc.result) (sym is) c.calc.ensures.follows

pub returns-in-Calc-clause-steps : goal.returns-in-Calc-clause-steps
returns-in-Calc-clause-steps g c =
    let is : c.args.asked.now.command ≡ Calc = cc (c.command.ensures, c.in-Calc.is) in
    calc_within (g.H.Shelf.held c.args.shelf.now) c.args.asked.now.command c.args.asked.now _ _ is c.calc.ensures.steps

pub returns-in_err-rows-in-Trial-clause-steps : goal.returns-in_err-rows-in-Trial-clause-steps
returns-in_err-rows-in-Trial-clause-steps g c =
    let is : c.args.asked.now.command ≡ Trial = cc (c.command.ensures, c.in-Trial.is) in
    trial_within (g.H.Shelf.held c.args.shelf.now) c.args.asked.now.command c.args.asked.now c.shape.result c.size.result _ _ is c.shape.ensures c.size.ensures c.trial.ensures.steps

pub returns-in_ok-rows-in-Trial-clause-steps : goal.returns-in_ok-rows-in-Trial-clause-steps
returns-in_ok-rows-in-Trial-clause-steps g c =
    let is : c.args.asked.now.command ≡ Trial = cc (c.command.ensures, c.in-Trial.is) in
    trial_within (g.H.Shelf.held c.args.shelf.now) c.args.asked.now.command c.args.asked.now c.shape.result c.size.result _ _ is c.shape.ensures c.size.ensures c.trial.ensures.steps
