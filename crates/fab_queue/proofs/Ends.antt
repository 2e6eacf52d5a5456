-- What the ends of a lane keep.
use Rattle.std.proofs.Common.{◌≡◌, List, [], ◌∷◌, ◌++◌, sym, ap, ◌∙◌, subst, append-nil}
use mathlib.Core.List.{map-append}
use Rattle.std.specs.Prelude.{Option, Some, None, option_to_list}
use Rattle.std.proofs.lemmas.Option.{none-some}
use Rattle.fab_base.specs.declared.frames.FrameHead.{FrameHead}
use Rattle.fab_link.specs.Frames.{last_head}
use Rattle.fab_link.proofs.Lanes.{last_head-push}
use Rattle.fab_queue.specs.declared.lane.Sent.{Sent}
use Rattle.fab_queue.specs.declared.lane.Log.{Log}
use Rattle.fab_queue.specs.Lanes.{frame_of, frames_of, put_one}
use Rattle.fab_queue.specs.Ends.{MayPut, MayGet}

-- the head of the last frame of a list that ends with this one
pub last_of : (xs : List Sent) (x : Sent) → last_head None (frames_of (xs ++ x ∷ [])) ≡ Some x.frame.head
last_of xs x = ap (last_head None) (map-append frame_of xs (x ∷ [])) ∙ last_head-push None (frames_of xs) x.frame

pub put_more : (v w : Log) (end : Option FrameHead) (x : Sent) → MayPut v end → w ≡ put_one v x → MayPut w (Some x.frame.head)
put_more v w end x k e = subst (λ u. MayPut u (Some x.frame.head)) (sym e) (record { puts = k.puts; end_is = sym (last_of v.put x) })

pub took : (v : Log) (taken : List Sent) (lent : Option Sent) (end : Option FrameHead) (x : Sent) → MayGet v taken lent end → lent ≡ Some x → MayGet v (taken ++ x ∷ []) None (Some x.frame.head)
took v taken lent end x k is = record {
  gets = k.gets;
  got = k.got ∙ ap (λ o. taken ++ option_to_list o) is ∙ sym (append-nil (taken ++ x ∷ []));
  next = λ y e. absurd (none-some y e);
  end_is = sym (last_of taken x);
}
