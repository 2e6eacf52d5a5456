-- What stays of what a port keeps of its open frames.
use Rattle.std.proofs.Common.{◌≡◌, ℕ, ◌<◌, List, [], length, get_or, set, sym, ap, ◌∙◌, subst, length-set, get_or-set_same, get_or-set_other}
use mathlib.Core.Logic.{dite}
use native.Mathlib.Decide.{ℕ_discrete}
use Rattle.std.specs.Prelude.{Some, None, slice_get}
use Rattle.std.proofs.Math.Logic.{∥∥₁_map}
use Rattle.std.proofs.lemmas.Option.{none-some}
use Rattle.fab_base.proofs.Lists.{get_set_same, get_set_other}
use Rattle.fab_link.specs.declared.moves.Move.{Move}
use Rattle.fab_link.specs.Frames.{last_head, MayCome}
use Rattle.fab_table.specs.declared.kinds.Command.{Command}
use Rattle.fab_table.specs.declared.kinds.Sent.{Sent}
use Rattle.fab_table.specs.declared.kinds.Out.{Out}
use Rattle.fab_table.specs.declared.kinds.In.{In}
use Rattle.fab_table.specs.declared.kinds.Part.{Part}
use Rattle.fab_table.specs.Views.{frames_of, new_part, new_in, in_at, with_out, with_in}
use Rattle.fab_table.proofs.Seating.{same_all}
use Rattle.fab_ring.specs.Hands.{Tells, Told, Comes}

pub told_out : (peers : ℕ) (cs : List Command) (bs : List (List ℕ)) (p : Part) (d : ℕ) (o : Out) (ms : List Move) → Told peers cs bs p → Told peers cs bs (with_out p d o ms)
told_out peers cs bs p d o ms t = record { all_commands = t.all_commands; all_buffers = t.all_buffers; sizes = t.sizes; says = t.says }

-- a lane whose open frame is the same, or that has none any more
pub told_in : (peers : ℕ) (cs : List Command) (bs : List (List ℕ)) (p : Part) (s : ℕ) (u : In) (ms : List Move) → s < length p.ins → ((x : Sent) → u.opened ≡ Some x → (in_at p s).opened ≡ Some x) → Told peers cs bs p → Told peers cs bs (with_in p s u ms)
told_in peers cs bs p s u ms near keep t = record {
  all_commands = t.all_commands;
  all_buffers = t.all_buffers;
  sizes = t.sizes;
  says = λ e c x there opened. dite (ℕ_discrete e s)
      (λ is. t.says e c x there (subst (λ (z : ℕ). (in_at p z).opened ≡ Some x) (sym is) (keep x (sym (ap (λ (z : In). z.opened) (get_or-set_same p.ins s u new_in near)) ∙ subst (λ (z : ℕ). (in_at (with_in p s u ms) z).opened ≡ Some x) is opened))))
      (λ ne. t.says e c x there (sym (ap (λ (z : In). z.opened) (get_or-set_other p.ins s e u new_in ne)) ∙ opened));
}

-- a lane whose open frame, if any, the new command and buffer say
pub told_set : (peers : ℕ) (cs : List Command) (bs : List (List ℕ)) (p : Part) (s : ℕ) (u : In) (c : Command) (b : List ℕ) (ms : List Move) → s < peers → s < length p.ins → length b ≡ 4096 → ((x : Sent) → u.opened ≡ Some x → Tells x c b) → Told peers cs bs p → Told peers (set cs s c) (set bs s b) (with_in p s u ms)
told_set peers cs bs p s u c b ms low near sized tells t = let low' : s < length bs = subst (λ (z : ℕ). s < z) (sym t.all_buffers) low in let here : get_or (set bs s b) s [] ≡ b = get_or-set_same bs s b [] low' in record {
  all_commands = length-set cs s c ∙ t.all_commands;
  all_buffers = length-set bs s b ∙ t.all_buffers;
  sizes = λ e near'. dite (ℕ_discrete e s)
      (λ is. subst (λ (z : ℕ). length (get_or (set bs s b) z []) ≡ 4096) (sym is) (ap length here ∙ sized))
      (λ ne. ap length (get_or-set_other bs s e b [] ne) ∙ t.sizes e near');
  says = λ e c' x' there opened. dite (ℕ_discrete e s)
      (λ is. let same_c : c ≡ c' = get_set_same cs s c c' (subst (λ (z : ℕ). slice_get (set cs s c) z ≡ Some c') is there) in
      let mine = tells x' (sym (ap (λ (z : In). z.opened) (get_or-set_same p.ins s u new_in near)) ∙ subst (λ (z : ℕ). (in_at (with_in p s u ms) z).opened ≡ Some x') is opened) in
      subst (λ (z : Command × List ℕ). Tells x' z.0 z.1) (λ i. (same_c i, (sym here ∙ (λ j. get_or (set bs s b) (sym is j) [])) i)) mine)
      (λ ne. subst (λ (z : List ℕ). Tells x' c' z) (sym (get_or-set_other bs s e b [] ne)) (t.says e c' x' (sym (get_set_other cs s e c ne) ∙ there) (sym (ap (λ (z : In). z.opened) (get_or-set_other p.ins s e u new_in ne)) ∙ opened)));
}

pub told_new : (peers room pool me : ℕ) (cs : List Command) (bs : List (List ℕ)) → length cs ≡ peers → length bs ≡ peers → ((s : ℕ) → s < peers → length (get_or bs s []) ≡ 4096) → Told peers cs bs (new_part peers room pool me)
told_new peers room pool me cs bs lc lb sizes = record { all_commands = lc; all_buffers = lb; sizes = sizes; says = λ s c x there opened. absurd (none-some x (ap (λ (z : In). z.opened) (sym (same_all peers s new_in)) ∙ opened)) }

pub comes_out : (p : Part) (d : ℕ) (o : Out) (ms : List Move) → ∥ Comes p ∥₁ → ∥ Comes (with_out p d o ms) ∥₁
comes_out p d o ms c = ∥∥₁_map c (λ k s x e. k s x e)

pub comes_in : (p : Part) (s : ℕ) (u : In) (ms : List Move) → s < length p.ins → ((x : Sent) → u.opened ≡ Some x → MayCome (last_head None (frames_of u.taken)) x.frame) → Comes p → Comes (with_in p s u ms)
comes_in p s u ms near mine k e x opened = let here = get_or-set_same p.ins s u new_in near in dite (ℕ_discrete e s)
    (λ is. subst (λ (z : ℕ). MayCome (last_head None (frames_of (in_at (with_in p s u ms) z).taken)) x.frame) (sym is)
    (subst (λ (z : In). MayCome (last_head None (frames_of z.taken)) x.frame) (sym here) (mine x (sym (ap (λ (z : In). z.opened) here) ∙ subst (λ (z : ℕ). (in_at (with_in p s u ms) z).opened ≡ Some x) is opened))))
    (λ ne. let there = get_or-set_other p.ins s e u new_in ne in subst (λ (z : In). MayCome (last_head None (frames_of z.taken)) x.frame) (sym there) (k e x (sym (ap (λ (z : In). z.opened) there) ∙ opened)))
