-- What a peer of a program shows to others only grows, and nothing is whole before it is sent, or sent before it is accepted.
use Rattle.std.proofs.Common.{◌≡◌, ◌≤◌, ◌<◌, ℕ, Bool, true, List, [], ◌∷◌, length, slice_get, Option, Some, None, inl, inr, refl, sym, ap, subst, arith}
use Rattle.std.specs.Prelude.{slice_index, slice_set}
use Rattle.std.specs.Option.{option_map_or}
use Rattle.std.proofs.lemmas.List.{length-replicate}
use Rattle.std.proofs.lemmas.Option.{slice_get_within}
use Rattle.fab_base.specs.declared.items.Item.{Item}
use Rattle.fab_model.specs.State.{State, accepted_for}
use Rattle.fab_model.specs.Sending.{transmitting}
use Rattle.fab_model.specs.Arrivals.{made_whole}
use Rattle.fab_model.specs.Orders.{Leads, Turn}
use Rattle.fab_model.specs.Views.{View, IsPrefixOf, More, rule, seen}
use Rattle.fab_model.proofs.Passes.{Passes, same, call_passes, draw_passes, head_passes, sent_passes, tail_passes}
use Rattle.fab_model.proofs.Patient.{Within, passes_within, whole_within, sent_within}
use Rattle.fab_model.proofs.Grows.{Shown, passes_shown, raised as raised_on}
use Rattle.fab_model.proofs.Holding.{Fenced, fenced_kept}
use Rattle.fab_model.proofs.Parts.{more_item, more_sent, some_gives, some_is}
use Rattle.std.proofs.lemmas.Bool.{and_from, and_parts}
use Rattle.fab_base.proofs.Lists.{all_the_same}
use Rattle.fab_model.proofs.Turns.{slice_get-set}
use Rattle.fab_model.proofs.Views as views
use Rattle.fab_laws.specs.Programs.{head_deed, tail_deed, only_where, peer, Deed, Makes, Counts, Head, Tail, Draw, Opening, Peer, deed, program}
use Rattle.fab_laws.proofs.Levels.{fresh_fenced}
use Rattle.fab_laws.proofs.Stepping.{StepIs, at_opening, step_is, where_is}

abbrev pub Own : ℕ → View Item → Peer → Type 0
Own peers v a = Within peers v a.state

-- ---- what deeds keep

to_within : (peers : ℕ) (v : View Item) (s u w : State) → u ≡ w → Passes s w → Within peers v s → Within peers v u
to_within peers v s u w is passes own = passes_within peers v s u (subst (Passes s) (sym is) passes) own

owns : (peers : ℕ) (v : View Item) (a b : Peer) (x : Deed) → Own peers v a → StepIs v a x b → Own peers v b
owns peers v a b (Makes call) own (inl (none, is)) = to_within peers v a.state b.state a.state is (same refl refl refl) own
owns peers v a b (Makes call) own (inr (c, asks, is)) = to_within peers v a.state b.state _ is (call_passes a.state c) own
owns peers v a b (Counts counters) own is = to_within peers v a.state b.state _ is (same refl refl refl) own
owns peers v a b (Head source) own (item, has, level, none, is) = to_within peers v a.state b.state _ is (head_passes a.state source item.head) own
owns peers v a b (Tail source) own (item, has, odd, lt, is) = to_within peers v _ b.state _ is (tail_passes a.state source item.head item.bytes) (whole_within peers v a.state source lt own)
owns peers v a b (Deed.Sent t) own (lt, is) = to_within peers v _ b.state _ is (sent_passes a.state t) (sent_within peers v a.state t lt own)
owns peers v a b Draw own (due, is) = to_within peers v a.state b.state _ is (draw_passes a.state) own
owns peers v a b Deed.Read own is = to_within peers v a.state b.state _ is (same refl refl refl) own

owns_more : (peers : ℕ) (v w : View Item) (a : Peer) → More v w → Own peers v a → Own peers w a
owns_more peers v w a more own = record { count = own.count; whole = λ source. omega (arith, own.whole source, more.sent source); sent = own.sent }

-- ---- what is shown

to_shown : (s u w : State) → u ≡ w → Passes s w → (q : ℕ) → Shown s u q
to_shown s u w is passes q = passes_shown s u (subst (Passes s) (sym is) passes) q

shown : (v : View Item) (a b : Peer) (x : Deed) → StepIs v a x b → (q : ℕ) → Shown a.state b.state q
unfolding transmitting made_whole
shown v a b (Makes call) (inl (none, is)) q = to_shown a.state b.state a.state is (same refl refl refl) q
shown v a b (Makes call) (inr (c, asks, is)) q = to_shown a.state b.state _ is (call_passes a.state c) q
shown v a b (Counts counters) is q = to_shown a.state b.state _ is (same refl refl refl) q
shown v a b (Head source) (item, has, level, none, is) q = to_shown a.state b.state _ is (head_passes a.state source item.head) q
shown v a b (Tail source) (item, has, odd, lt, is) q = to_shown _ b.state _ is (tail_passes a.state source item.head item.bytes) q
shown v a b (Deed.Sent t) (lt, is) q = let p = to_shown _ b.state _ is (sent_passes a.state t) q in (p.0, omega (arith, p.1, raised_on a.state.tx.sent t q))
shown v a b Draw (due, is) q = to_shown a.state b.state _ is (draw_passes a.state) q
shown v a b Deed.Read is q = to_shown a.state b.state _ is (same refl refl refl) q

pub grows : (v : View Item) (a b : Peer) (x : Deed) → program.step v a x ≡ Some b → (q : ℕ) → IsPrefixOf (program.ready a q) (program.ready b q) × (program.sent a q ≤ program.sent b q)
unfolding program
grows v a b x e q = shown v a b x (step_is v a b x e) q

-- ---- no deed minds what others do

head_waits : (v w : View Item) (s : State) (b : Peer) (source : ℕ) → More v w → head_deed v s source ≡ Some b → head_deed w s source ≡ Some b
unfolding head_deed
head_waits v w s b source more e =
    let k = slice_index s.rx.heads source in
    let i = some_is (slice_get (v.ready source) k) _ b e in
    some_gives (slice_get (w.ready source) k) _ i.0 b (more_item v w source k i.0 more i.1) i.2

pub where_gives : (holds : Bool) (s : State) (b : Peer) → holds ≡ true → peer s ≡ b → only_where holds s ≡ Some b
where_gives holds s b t e = rw t (ap Some e)

tail_waits : (v w : View Item) (s : State) (b : Peer) (source : ℕ) → More v w → tail_deed v s source ≡ Some b → tail_deed w s source ≡ Some b
unfolding tail_deed
tail_waits v w s b source more e =
    let k = slice_index s.rx.tails source in
    let i = some_is (slice_get (v.ready source) k) _ b e in
    let t = where_is _ _ b i.2 in
    let arrived = and_parts _ _ t.0 in
    let sent = and_parts _ _ arrived.0 in
    some_gives (slice_get (w.ready source) k) _ i.0 b (more_item v w source k i.0 more i.1) (where_gives _ _ b (and_from _ _ (and_from _ _ sent.0 (more_sent v w source k more sent.1)) arrived.1) t.1)

pub waits : views.WaitsForMore program
unfolding program deed
waits v w a b (Makes call) more e = e
waits v w a b (Counts counters) more e = e
waits v w a b (Head source) more e = head_waits v w a.state b source more e
waits v w a b (Tail source) more e = tail_waits v w a.state b source more e
waits v w a b (Deed.Sent t) more e = e
waits v w a b Draw more e = e
waits v w a b Deed.Read more e = e

pub program_patient : (peers : ℕ) → views.Patient program peers (Own peers)
unfolding program
program_patient peers = record {
  owns = λ v a b x own e. owns peers v a b x own (step_is v a b x e);
  owns_more = owns_more peers;
  grows = grows;
  waits = waits;
  calm_stays = λ states p a b x sound e c stood. absurd (cc (c));
}

-- ---- the opening

pub opening_sound : (from : Opening) → views.Sound program (length from.peers) (Own (length from.peers)) from.peers
opening_sound from = record {
  count = refl;
  own = λ p a e. at_opening from (λ s. Within (length from.peers) (seen program from.peers p) s) (λ conf av names. record {
    count = omega (arith, length-replicate {A = List Item} (length from.peers) []);
    whole = λ source. omega (arith, all_the_same {X = ℕ} (length from.peers) source 0);
    sent = λ t. omega (arith, all_the_same {X = ℕ} (length from.peers) t 0);
  }) p a e;
}

-- who is seen to have an item ready is a peer
pub sender_is : (states : List Peer) (p source k : ℕ) (item : Item) → slice_get ((seen program states p).ready source) k ≡ Some item → (sender : Peer) × (slice_get states source ≡ Some sender) × (k < length (accepted_for sender.state.tx p))
unfolding program
sender_is states p source k item has = go (slice_get states source) refl has
  where
    go :
        (o : Option Peer) → slice_get states source ≡ o → slice_get (option_map_or (λ a. accepted_for a.state.tx p) o []) k ≡ Some item
        → (sender : Peer) × (slice_get states source ≡ Some sender) × (k < length (accepted_for sender.state.tx p))
    go None e has = absurd (cc)
    go (Some a) e has = (a, e, slice_get_within (accepted_for a.state.tx p) k item has)

-- ---- what fences hold back

abbrev pub AllFenced : List Peer → Type 0
AllFenced states = (p : ℕ) (a : Peer) → slice_get states p ≡ Some a → Fenced a.state

fenced_by : (v : View Item) (a b : Peer) (x : Deed) → StepIs v a x b → Fenced a.state → Fenced b.state
fenced_by v a b (Makes call) (inl (none, is)) f = subst Fenced (sym is) f
fenced_by v a b (Makes call) (inr (c, asks, is)) f = subst Fenced (sym is) (fenced_kept.call a.state c f)
fenced_by v a b (Counts counters) is f = subst Fenced (sym is) (record { by = f.by; named = f.named; count = f.count })
fenced_by v a b (Head source) (item, has, level, none, is) f = subst Fenced (sym is) (fenced_kept.head a.state source item.head f)
fenced_by v a b (Tail source) (item, has, odd, lt, is) f = subst Fenced (sym is) (fenced_kept.tail a.state source item.head item.bytes f)
fenced_by v a b (Deed.Sent t) (lt, is) f = subst Fenced (sym is) (fenced_kept.sent a.state t f)
fenced_by v a b Draw (due, is) f = subst Fenced (sym is) (fenced_kept.draw a.state f)
fenced_by v a b Deed.Read is f = subst Fenced (sym is) (fenced_kept.read a.state f)

pub opening_fenced : (from : Opening) → AllFenced from.peers
opening_fenced from p a e = at_opening from Fenced (λ conf av names.
    let f = fresh_fenced (record conf { peers = length from.peers }) p (slice_get_within from.peers p a e) in
    record { by = f.by; named = λ i t e. omega (arith, names i t e, length-replicate {A = List Item} (length from.peers) []); count = f.count }) p a e

pub leads_fenced : (turns : List (Turn Deed)) (states last : List Peer) → AllFenced states → Leads (rule program) states turns last → AllFenced last
leads_fenced [] states last all leads = subst AllFenced leads all
leads_fenced (t ∷ turns) states last all (s, stands, rest) =
    leads_fenced turns (slice_set states t.peer s) last (λ p a e. elim (slice_get-set states t.peer p s a e) [
      | inl before ↦ all p a before
      | inr now ↦
          let i = views.rule_is program states t.peer t.step s stands in
          let f = fenced_by (seen program states t.peer) i.0 s t.step (step_is _ i.0 s t.step i.2) (all t.peer i.0 i.1) in
          subst (λ (b : Peer). Fenced b.state) (sym (now.1)) f
    ]) rest
