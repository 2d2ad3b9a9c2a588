-- The line of the call that the letter names.
use Rattle.std.proofs.Common.{refl, arith}
use Rattle.records.specs.Called.{bounds, look, report, run, start, step, unnamed, wait}
use Rattle.records.proofs.calls.call.Goals as goal

pub returns-in_default-clause-line : goal.returns-in_default-clause-line
returns-in_default-clause-line g c =
    unnamed (record {
      look = λ e. omega (arith, e);
      start = λ e. omega (arith, e);
      step = λ e. omega (arith, e);
      run = λ e. omega (arith, e);
      wait = λ e. omega (arith, e);
      bounds = λ e. omega (arith, e);
      report = λ e. omega (arith, e);
    }) refl

pub returns-in_ok-look_line-in-76-clause-line : goal.returns-in_ok-look_line-in-76-clause-line
returns-in_ok-look_line-in-76-clause-line g c = look c.in-76.is c.in_ok-look_line-in-76.ensures

pub returns-in_ok-start_line-in-83-clause-line : goal.returns-in_ok-start_line-in-83-clause-line
returns-in_ok-start_line-in-83-clause-line g c = start c.in-83.is c.in_ok-start_line-in-83.ensures.line

pub returns-in_ok-step_line-in-84-clause-line : goal.returns-in_ok-step_line-in-84-clause-line
returns-in_ok-step_line-in-84-clause-line g c = step c.in-84.is c.first.ensures c.in_ok-step_line-in-84.ensures.line

pub returns-in_ok-run_line-in-82-clause-line : goal.returns-in_ok-run_line-in-82-clause-line
returns-in_ok-run_line-in-82-clause-line g c = run c.in-82.is c.in_ok-run_line-in-82.ensures.line

pub returns-in_ok-wait_line-in-87-clause-line : goal.returns-in_ok-wait_line-in-87-clause-line
returns-in_ok-wait_line-in-87-clause-line g c = wait c.in-87.is c.first-in-87.ensures c.in_ok-wait_line-in-87.ensures

pub returns-in_ok-bounds_line-in-66-clause-line : goal.returns-in_ok-bounds_line-in-66-clause-line
returns-in_ok-bounds_line-in-66-clause-line g c = bounds c.in-66.is c.in_ok-bounds_line-in-66.ensures.line

pub returns-in_ok-report_line-in-80-clause-line : goal.returns-in_ok-report_line-in-80-clause-line
returns-in_ok-report_line-in-80-clause-line g c = report c.in-80.is c.in_ok-report_line-in-80.ensures.1
