-- That a frame may come next is a fact: there is at most one way in which it can.
use Rattle.std.proofs.Common.{◌⊎◌, inl, inr}
use Rattle.std.specs.Prelude.{Option, Some, None}
use Rattle.std.proofs.Props.{props}
use Rattle.std.proofs.Math.Logic.{∥∥₁_elim}
use Rattle.fab_base.specs.declared.frames.FrameHead.{FrameHead}
use Rattle.fab_base.specs.declared.frames.Frame.{Frame}
use Rattle.fab_base.specs.declared.items.ItemHead.{ItemHead}
use Rattle.fab_base.specs.declared.items.Kind.{Kind}
use Rattle.fab_base.specs.declared.items.Kind.TheVariants.{Msg, TagMsg, WriteReq, ReadReq, AtomicReq, Reply}
use Rattle.fab_link.specs.Frames.{last_head, IsSoundAs, Follows, MayCome}
use Rattle.fab_table.specs.declared.kinds.Part.{Part}
use Rattle.fab_table.specs.Views.{frames_of, in_at}
use Rattle.fab_ring.specs.Hands.{Comes}

either_prop : {A B : Type 0} → IsProp A → IsProp B → (A → B → ⊥) → IsProp (A ⊎ B)
either_prop a b apart (inl x) (inl y) = λ i. inl (a x y i)
either_prop a b apart (inl x) (inr y) = absurd (apart x y)
either_prop a b apart (inr x) (inl y) = absurd (apart y x)
either_prop a b apart (inr x) (inr y) = λ i. inr (b x y i)

follows_prop : (before : Option FrameHead) (h : FrameHead) → IsProp (Follows before h)
follows_prop None h = Prim.hlevel props
follows_prop (Some p) h = either_prop (Prim.hlevel props) (Prim.hlevel props) (λ x y. y.1 x.0)

sound_prop : (kind : Kind) (item : ItemHead) → IsProp (IsSoundAs kind item)
sound_prop Msg item = Prim.hlevel props
sound_prop TagMsg item = Prim.hlevel props
sound_prop WriteReq item = Prim.hlevel props
sound_prop ReadReq item = Prim.hlevel props
sound_prop AtomicReq item = Prim.hlevel props
sound_prop Reply item = Prim.hlevel props

pair_prop : {A B : Type 0} → IsProp A → IsProp B → IsProp (A × B)
pair_prop a b x y = λ i. (a x.0 y.0 i, b x.1 y.1 i)

triple_prop : {A B C : Type 0} → IsProp A → IsProp B → IsProp C → IsProp (A × B × C)
triple_prop a b c x y = λ i. (a x.0 y.0 i, b x.1 y.1 i, c x.2 y.2 i)

comes_at_prop : (before : Option FrameHead) (f : Frame) → IsProp (MayCome before f)
comes_at_prop before f = pair_prop (triple_prop (follows_prop before f.head) (Prim.hlevel props) (sound_prop f.head.item.kind f.head.item)) (Prim.hlevel props)

pub comes_prop : (p : Part) → IsProp (Comes p)
comes_prop p a b = λ i s x e. comes_at_prop (last_head None (frames_of (in_at p s).taken)) x.frame (a s x e) (b s x e) i

pub comes_now : (p : Part) → ∥ Comes p ∥₁ → Comes p
comes_now p c = ∥∥₁_elim c (comes_prop p) (λ x. x)
