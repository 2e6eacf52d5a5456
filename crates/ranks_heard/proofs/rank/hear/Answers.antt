use Rattle.std.proofs.Common.{◌++◌, ap, sym, ◌∙◌, append-nil}
use Rattle.ranks_heard.specs.Ranks.{is_one, of_one}
use Rattle.fabric.proofs.Speaking.{comes_by, comes_not}
use Rattle.ranks_heard.proofs.rank.hear.Goals as goal

pub returns-in_default : goal.returns-in_default
returns-in_default g c = comes_not is_one _ _ _ c.reserve.ensures.items

pub returns-in_default-reserve : goal.returns-in_default-reserve
returns-in_default-reserve g c = comes_not is_one _ _ _ c.reserve.ensures.items

pub returns-in_err-polled : goal.returns-in_err-polled
returns-in_err-polled g c = comes_by is_one _ _ _ _ _ _ _ c.in_err-polled.ensures.waits (c.reserve.ensures.items ∙ sym (append-nil c.args.came.now.items))

pub returns-in-Ok-Some : goal.returns-in-Ok-Some
returns-in-Ok-Some g c =
    let told = c.in-Ok-Some.ensures.message ∙ ap of_one c.in-Ok-Some.field-0-is in
    comes_by is_one _ _ _ _ _ _ _ c.in_ok-polled.ensures.waits (c.keep.ensures ∙ (λ i. c.reserve.ensures.items i ++ sym told i))

pub returns-in-Ok-None : goal.returns-in-Ok-None
returns-in-Ok-None g c =
    let told = c.in-Ok-None.ensures.message ∙ ap of_one c.in-Ok-None.field-0-is in
    comes_by is_one _ _ _ _ _ _ _ c.in_ok-polled.ensures.waits (c.reserve.ensures.items ∙ sym (append-nil c.args.came.now.items) ∙ ap (λ ms. c.args.came.now.items ++ ms) (sym told))

pub returns-in-Err : goal.returns-in-Err
returns-in-Err g c = comes_by is_one _ _ _ _ _ _ _ c.in_ok-polled.ensures.waits (c.reserve.ensures.items ∙ sym (append-nil c.args.came.now.items) ∙ ap (λ ms. c.args.came.now.items ++ ms) (sym c.in-Err.ensures.none))
