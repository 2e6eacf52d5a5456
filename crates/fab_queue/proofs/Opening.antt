-- Ports over new lanes.
use Rattle.std.proofs.Common.{◌≡◌, ℕ, zero, suc, ◌+◌, ◌^◌, ◌<◌, ◌≤◌, List, [], ◌∷◌, ◌++◌, map, length, set, sym, refl, ap, ◌∙◌, subst, arith, inl, inr, length-set, length-append}
use native.Mathlib.Decide.{dec_le}
use Rattle.std.specs.Prelude.{Some, slice_get, Vec, ◌⊎◌}
use Rattle.std.specs.declared.alloc.Global.{Global}
use Rattle.std.proofs.Math.ListN.{get_or-eq_default}
use Rattle.std.proofs.lemmas.Option.{same_Some, slice_get_within}
use Rattle.atomic_table.specs.Seated.{TableId}
use Rattle.fab_link.specs.Meaning.{AreFresh}
use Rattle.fab_queue.specs.Ends.{Out, In, new_out, new_in}
use Rattle.fab_queue.specs.Ports.{Queued, no_lane, number, outgoing, incoming, IsTold}
use Rattle.fab_queue.specs.Laid.{members, row, column, out_in, in_in, AreLaid}
use Rattle.fab_queue.specs.Made.{AreEmpty, IsOpened, AreOpened, AreMade}
use Rattle.fab_queue.proofs.Members.{members_set_other}

pub told_new : (me : ℕ) (outs : List Out) (ins : List In) → length ins ≡ length outs → length outs < 2 ^ 32 → AreEmpty outs ins → IsTold 0 (record { number = me; outs = outs; ins = ins; moves = [] })
told_new me outs ins same few empty = (
  refl,
  record { few = few; all_ins = same; stamped = tt; posts = λ d. ap (map number) (sym (empty.0 d)); takes = λ s. ap (map number) (sym (empty.1 s)) },
)

-- a member of a list with one more is one of before, or that one
pub snoc_get : {X : Type 0} (xs : List X) (x : X) (k : ℕ) (p : X) → slice_get (xs ++ x ∷ []) k ≡ Some p → (slice_get xs k ≡ Some p) ⊎ ((k ≡ length xs) × (x ≡ p))
snoc_get [] x zero p e = inr (refl, same_Some x p e)
snoc_get [] x (suc k) p e = inl e
snoc_get (y ∷ ys) x zero p e = inl e
snoc_get (y ∷ ys) x (suc k) p e = elim (snoc_get ys x k p e) [ inl h ↦ inl h | inr h ↦ inr (ap suc h.0, h.1) ]

pub opened_more : (outs now_outs : List (Vec Out Global)) (ins now_ins : List (Vec In Global)) (ports : List Queued) (n : ℕ) (o o' : Vec Out Global) (i i' : Vec In Global) (p : Queued)
    → AreOpened outs now_outs ins now_ins ports n → o.items ≡ members now_outs n → i.items ≡ members now_ins n → IsOpened n o.items i.items p
    → AreOpened outs (set now_outs n o') ins (set now_ins n i') (ports ++ p ∷ []) (n + 1)
opened_more outs now_outs ins now_ins ports n o o' i i' p k eo ei is = record {
  count = length-append ports (p ∷ []) ∙ ap (λ (z : ℕ). z + 1) k.count;
  each = λ j q there. elim (snoc_get ports p j q there) [
    | inl h ↦ k.each j q h
    | inr h ↦ let at : j ≡ n = h.0 ∙ k.count in
        sym h.1 ∙ is ∙ (λ z. record { number = sym at z; outs = (eo ∙ k.outs_left n (omega arith) ∙ ap (members outs) (sym at)) z; ins = (ei ∙ k.ins_left n (omega arith) ∙ ap (members ins) (sym at)) z; moves = [] })
  ];
  outs_count = length-set now_outs n o' ∙ k.outs_count;
  ins_count = length-set now_ins n i' ∙ k.ins_count;
  outs_left = λ j far. members_set_other now_outs n j o' (λ e. omega (arith, far, e)) ∙ k.outs_left j (omega (arith, far));
  ins_left = λ j far. members_set_other now_ins n j i' (λ e. omega (arith, far, e)) ∙ k.ins_left j (omega (arith, far));
}

fresh_of : (a b : TableId) (room : ℕ) → AreFresh (outgoing (new_out a room)) (incoming (new_in b))
fresh_of a b room = record { frames = refl; lane_full_seen = refl; pool_full_seen = refl; taken = refl; lent = refl; empty_seen = refl }

module _ (room peers : ℕ) (outs : List (Vec Out Global)) (ins : List (Vec In Global)) (k : AreLaid room peers peers outs ins) where
  -- each end of a peer is new, and so is the end of no lane
  pub out_new : (s d : ℕ) → s < peers → (a : TableId) × (r : ℕ) × (out_in (row outs s) d ≡ new_out a r)
  out_new s d near = elim (dec_le peers d) [
    | Prim.yes far ↦ (no_lane, 0, get_or-eq_default (row outs s) (new_out no_lane 0) (subst (λ (z : ℕ). z ≤ d) (sym (k.each_row s near)) far))
    | Prim.no low ↦ let there = k.each s d near (omega (arith, low)) in ((in_in (column ins d) s).lane, room, there.0)
  ]

  pub in_new : (s d : ℕ) → d < peers → (a : TableId) × (in_in (column ins d) s ≡ new_in a)
  in_new s d near = elim (dec_le peers s) [
    | Prim.yes far ↦ (no_lane, get_or-eq_default (column ins d) (new_in no_lane) (subst (λ (z : ℕ). z ≤ s) (sym (k.each_column d near)) far))
    | Prim.no low ↦ let there = k.each s d (omega (arith, low)) near in ((in_in (column ins d) s).lane, there.1)
  ]

  pub empty_ends : (me : ℕ) → me < peers → AreEmpty (row outs me) (column ins me)
  empty_ends me near = ((λ d. ap (λ (o : Out). o.posted) (out_new me d near).2), λ s. ap (λ (i : In). i.taken) (in_new s me near).1)

  pub made : (now_outs : List (Vec Out Global)) (now_ins : List (Vec In Global)) (ports : List Queued) → AreOpened outs now_outs ins now_ins ports peers → AreMade peers room ports
  made now_outs now_ins ports o =
      let low : (j : ℕ) (p : Queued) → slice_get ports j ≡ Some p → j < peers = λ j p there. subst (λ (z : ℕ). j < z) o.count (slice_get_within ports j p there) in record {
        count = o.count;
        numbers = λ j p there. ap (λ (q : Queued). q.number) (o.each j p there);
        sizes = λ j p there. let is = o.each j p there in
            (ap (λ (q : Queued). length q.outs) is ∙ k.each_row j (low j p there), λ d near. ap (λ (q : Queued). (out_in q.outs d).room) is ∙ ap (λ (z : Out). z.room) (k.each j d (low j p there) near).0);
        joined = λ s d a b at_s at_d. let laid = k.each s d (low s a at_s) (low d b at_d) in
            ap (λ (q : Queued). (out_in q.outs d).lane) (o.each s a at_s) ∙ ap (λ (z : Out). z.lane) laid.0 ∙ sym (ap (λ (q : Queued). (in_in q.ins s).lane) (o.each d b at_d));
        fresh = λ j p there. let is = o.each j p there in let near = low j p there in (
          ap (λ (q : Queued). q.moves) is,
          λ d. let a = out_new j d near in let b = in_new d j near in
              subst (λ (z : Out × In). AreFresh (outgoing z.0) (incoming z.1)) (λ i. (sym (ap (λ (q : Queued). out_in q.outs d) is ∙ a.2) i, sym (ap (λ (q : Queued). in_in q.ins d) is ∙ b.1) i)) (fresh_of a.0 b.0 a.1),
        );
      }
