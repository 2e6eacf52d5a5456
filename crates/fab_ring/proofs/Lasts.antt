-- What stays of the heads that a port keeps of the last frames posted and taken.
use Rattle.std.proofs.Common.{◌≡◌, ℕ, ◌<◌, List, [], ◌∷◌, ◌++◌, length, set, replicate, sym, refl, ap, ◌∙◌, subst, length-set, get_or-set_same, get_or-set_other}
use lib.ListN.{length-replicate}
use Rattle.std.proofs.lemmas.List.{get_or-replicate}
use mathlib.Core.List.{map-append}
use mathlib.Core.Logic.{dite}
use native.Mathlib.Decide.{ℕ_discrete}
use Rattle.std.specs.Prelude.{Option, Some, None, slice_index_or}
use Rattle.fab_base.specs.declared.frames.FrameHead.{FrameHead}
use Rattle.fab_link.specs.declared.moves.Move.{Move}
use Rattle.fab_link.specs.Frames.{last_head}
use Rattle.fab_link.proofs.Lanes.{last_head-push}
use Rattle.fab_table.specs.declared.kinds.Sent.{Sent}
use Rattle.fab_table.specs.declared.kinds.Out.{Out}
use Rattle.fab_table.specs.declared.kinds.In.{In}
use Rattle.fab_table.specs.declared.kinds.Part.{Part}
use Rattle.fab_table.specs.Views.{frame_of, frames_of, new_part, new_out, new_in, out_at, in_at, with_out, with_in}
use Rattle.fab_table.proofs.Seating.{same_all}
use Rattle.fab_ring.specs.Hands.{Ends}

-- the head of the last frame of a list that ends with this one
last_of : (xs : List Sent) (x : Sent) → last_head None (frames_of (xs ++ x ∷ [])) ≡ Some x.frame.head
last_of xs x = ap (last_head None) (map-append frame_of xs (x ∷ [])) ∙ last_head-push None (frames_of xs) x.frame

module _ (peers : ℕ) (hs ts : List (Option FrameHead)) (p : Part) where
  out_ends : (d : ℕ) (o : Out) (ms : List Move) (hs' : List (Option FrameHead)) → length hs' ≡ peers → d < length p.outs → slice_index_or hs' d None ≡ last_head None (frames_of o.posted)
      → ((e : ℕ) → ¬ (e ≡ d) → slice_index_or hs' e None ≡ slice_index_or hs e None) → Ends peers hs ts p → Ends peers hs' ts (with_out p d o ms)
  out_ends d o ms hs' long near here others k = record {
    all_posted = long;
    all_taken = k.all_taken;
    each_posted = λ e low. dite (ℕ_discrete e d)
        (λ is. subst (λ (z : ℕ). slice_index_or hs' z None ≡ last_head None (frames_of (out_at (with_out p d o ms) z).posted)) (sym is) (here ∙ ap (λ (z : Out). last_head None (frames_of z.posted)) (sym (get_or-set_same p.outs d o (new_out 0) near))))
        (λ ne. others e ne ∙ k.each_posted e low ∙ ap (λ (z : Out). last_head None (frames_of z.posted)) (sym (get_or-set_other p.outs d e o (new_out 0) ne)));
    each_taken = k.each_taken;
  }

  in_ends : (s : ℕ) (u : In) (ms : List Move) (ts' : List (Option FrameHead)) → length ts' ≡ peers → s < length p.ins → slice_index_or ts' s None ≡ last_head None (frames_of u.taken)
      → ((e : ℕ) → ¬ (e ≡ s) → slice_index_or ts' e None ≡ slice_index_or ts e None) → Ends peers hs ts p → Ends peers hs ts' (with_in p s u ms)
  in_ends s u ms ts' long near here others k = record {
    all_posted = k.all_posted;
    all_taken = long;
    each_posted = k.each_posted;
    each_taken = λ e low. dite (ℕ_discrete e s)
        (λ is. subst (λ (z : ℕ). slice_index_or ts' z None ≡ last_head None (frames_of (in_at (with_in p s u ms) z).taken)) (sym is) (here ∙ ap (λ (z : In). last_head None (frames_of z.taken)) (sym (get_or-set_same p.ins s u new_in near))))
        (λ ne. others e ne ∙ k.each_taken e low ∙ ap (λ (z : In). last_head None (frames_of z.taken)) (sym (get_or-set_other p.ins s e u new_in ne)));
  }

  -- a step that posts nothing
  pub ends_out : (d : ℕ) (o : Out) (ms : List Move) → d < peers → d < length p.outs → o.posted ≡ (out_at p d).posted → Ends peers hs ts p → Ends peers hs ts (with_out p d o ms)
  ends_out d o ms low near same k = (out_ends d o ms hs k.all_posted near (k.each_posted d low ∙ ap (λ (z : List Sent). last_head None (frames_of z)) (sym same)) (λ e ne. refl) k)

  -- a post
  pub ends_post : (d : ℕ) (o : Out) (x : Sent) (ms : List Move) → d < peers → d < length p.outs → o.posted ≡ (out_at p d).posted ++ x ∷ [] → Ends peers hs ts p → Ends peers (set hs d (Some x.frame.head)) ts (with_out p d o ms)
  ends_post d o x ms low near more k = (let inside : d < length hs = subst (λ (z : ℕ). d < z) (sym k.all_posted) low in
      out_ends d o ms (set hs d (Some x.frame.head)) (length-set hs d (Some x.frame.head) ∙ k.all_posted) near (get_or-set_same hs d (Some x.frame.head) None inside ∙ sym (last_of (out_at p d).posted x) ∙ ap (λ (z : List Sent). last_head None (frames_of z)) (sym more)) (λ e ne. get_or-set_other hs d e (Some x.frame.head) None ne) k)

  -- a step that takes nothing
  pub ends_in : (s : ℕ) (u : In) (ms : List Move) → s < peers → s < length p.ins → u.taken ≡ (in_at p s).taken → Ends peers hs ts p → Ends peers hs ts (with_in p s u ms)
  ends_in s u ms low near same k = (in_ends s u ms ts k.all_taken near (k.each_taken s low ∙ ap (λ (z : List Sent). last_head None (frames_of z)) (sym same)) (λ e ne. refl) k)

  -- a frame was finished
  pub ends_take : (s : ℕ) (u : In) (x : Sent) (h : FrameHead) (ms : List Move) → s < peers → s < length p.ins → u.taken ≡ (in_at p s).taken ++ x ∷ [] → h ≡ x.frame.head → Ends peers hs ts p → Ends peers hs (set ts s (Some h)) (with_in p s u ms)
  ends_take s u x h ms low near more is k = (let inside : s < length ts = subst (λ (z : ℕ). s < z) (sym k.all_taken) low in
      in_ends s u ms (set ts s (Some h)) (length-set ts s (Some h) ∙ k.all_taken) near (get_or-set_same ts s (Some h) None inside ∙ (λ i. Some (is i)) ∙ sym (last_of (in_at p s).taken x) ∙ ap (λ (z : List Sent). last_head None (frames_of z)) (sym more)) (λ e ne. get_or-set_other ts s e (Some h) None ne) k)

pub ends_new : (n room pool me : ℕ) (hs ts : List (Option FrameHead)) → hs ≡ replicate n None → ts ≡ replicate n None → Ends n hs ts (new_part n room pool me)
ends_new n room pool me hs ts a b = record {
  all_posted = ap length a ∙ length-replicate n None;
  all_taken = ap length b ∙ length-replicate n None;
  each_posted = λ d low. ap (λ (z : List (Option FrameHead)). slice_index_or z d None) a ∙ same_all n d None ∙ ap (λ (z : Out). last_head None (frames_of z.posted)) (sym (get_or-replicate n d (new_out pool) (new_out 0) low));
  each_taken = λ s low. ap (λ (z : List (Option FrameHead)). slice_index_or z s None) b ∙ same_all n s None ∙ ap (λ (z : In). last_head None (frames_of z.taken)) (sym (same_all n s new_in));
}
