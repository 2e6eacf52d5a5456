use Rattle.std.proofs.Common.{true, ◌++◌, Err, Ok, ap, sym, ◌∙◌, append-nil}
use Rattle.std.specs.Option.{option_to_list}
use Rattle.fabric.proofs.Speaking.{comes_by, comes_not}
use Rattle.hello_threads.proofs.stream.hear.Goals as goal

pub returns-in_default : goal.returns-in_default
returns-in_default g c = comes_not (λ ctx. true) _ _ _ c.reserve.ensures.items

pub returns-in_err-polled : goal.returns-in_err-polled
returns-in_err-polled g c = comes_by (λ ctx. true) _ _ _ _ _ _ _ c.in_err-polled.ensures.waits (c.reserve.ensures.items ∙ sym (append-nil c.args.came.now.items))

pub returns-in-Ok-Some : goal.returns-in-Ok-Some
returns-in-Ok-Some g c =
    let told = c.in-Ok-Some.ensures.message ∙ ap option_to_list c.in-Ok-Some.field-0-is in
    comes_by (λ ctx. true) _ _ _ _ _ _ _ c.in_ok-polled.ensures.waits (c.push_reserved.ensures.items ∙ (λ i. c.reserve.ensures.items i ++ sym told i))

pub returns-in-Ok-None : goal.returns-in-Ok-None
returns-in-Ok-None g c =
    let told = c.in-Ok-None.ensures.message ∙ ap option_to_list c.in-Ok-None.field-0-is in
    comes_by (λ ctx. true) _ _ _ _ _ _ _ c.in_ok-polled.ensures.waits (c.reserve.ensures.items ∙ sym (append-nil c.args.came.now.items) ∙ ap (λ ms. c.args.came.now.items ++ ms) (sym told))

pub returns-in-Err : goal.returns-in-Err
returns-in-Err g c = comes_by (λ ctx. true) _ _ _ _ _ _ _ c.in_ok-polled.ensures.waits (c.reserve.ensures.items ∙ sym (append-nil c.args.came.now.items) ∙ ap (λ ms. c.args.came.now.items ++ ms) (sym c.in-Err.ensures.none))
