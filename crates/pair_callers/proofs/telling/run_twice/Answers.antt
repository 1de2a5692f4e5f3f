use Rattle.std.proofs.Common.{◌++◌}
use Rattle.pair_callers.proofs.telling.run_twice.Goals as goal

pub returns : goal.returns
returns c = record {
  between = c.run.new.self;
  first_led = c.in_ok-answers.ensures.ok;
  second_led = c.in_ok-replies.ensures.ok;
  hold = λ m ss rs came few then.
      let on = c.in_ok-answers.ensures.came m ss rs came few in
      let steps = ss ++ c.args.first.now in
      let told = rs ++ c.in_ok-answers.answers.items in
      record {
        front = c.in_ok-replies.ensures.front m steps told on then;
        written = c.in_ok-replies.ensures.written m steps told on then;
        undelivered = c.in_ok-replies.ensures.undelivered m steps told on then;
      };
}
