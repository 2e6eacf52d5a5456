-- What the histories say of messages that went: each step adds to them what keeps the law of claims, and that a message goes once.
--     News past s t es hs      what a step adds to the two histories, and what it makes of the messages set aside
--     Claiming past h aside    what holds of the histories and of the messages set aside
use Rattle.std.proofs.Common.{◌≡◌, ℕ, Bool, true, List, [], ◌∷◌, ◌++◌, Option, Some, None, ◌⊎◌, inl, inr, refl, sym, ◌∙◌, ap, ap₂, subst}
use Rattle.fab_base.specs.declared.operations.Receive.{Receive}
use Rattle.fab_model.proofs.Parts.{some_same}
use Rattle.fab_laws.specs.Members.{Ahead, In, Never}
use Rattle.fab_laws.specs.Matched.{Came, Cancelled, Event, Got, Lost, Made, Mark, gone}
use Rattle.fab_laws.specs.Claimed.{Claimed, Discarded, Dropped, Handling, Slipped, Took, freed, lost, put_away}
use Rattle.fab_laws.specs.ClaimLaws.{Frees, FreesClaimed, NoneSlips, WentTo}
use Rattle.fab_laws.specs.ReceiveLaws.{LeavesOnce, LetsGo}
use Rattle.fab_laws.proofs.Lists.{Always, Each, Loses, ahead_end, in_end, in_front, in_middle, never}

-- ---- words

-- the event lets no message go
abbrev pub Dull : Event → Type 0
Dull (Came m) = Always
Dull (Made w) = Always
Dull (Got call m last) = Never
Dull (Lost m) = Never
Dull (Cancelled call) = Always

abbrev pub OnceEach : List Event → Type 0
OnceEach [] = Always
OnceEach (Came m ∷ past) = OnceEach past
OnceEach (Made w ∷ past) = OnceEach past
OnceEach (Got call m last ∷ past) = (In m (gone past) → Never) × OnceEach past
OnceEach (Lost m ∷ past) = (In m (gone past) → Never) × OnceEach past
OnceEach (Cancelled call ∷ past) = OnceEach past

-- it had been claimed under the context, and had not been taken or dropped
abbrev pub IsFree : ℕ → Mark → List Handling → Type 0
IsFree ctx x h = In (Claimed ctx x) h × (In x (freed h) → Never)

abbrev pub FreeEach : List Handling → Type 0
FreeEach [] = Always
FreeEach (Claimed ctx x ∷ h) = FreeEach h
FreeEach (Took call ctx x ∷ h) = IsFree ctx x h × FreeEach h
FreeEach (Dropped call ctx x ∷ h) = IsFree ctx x h × FreeEach h
FreeEach (Discarded call x ∷ h) = FreeEach h
FreeEach (Slipped x ∷ h) = Never

-- what was claimed is aside, or a call under its context took or dropped it
abbrev pub Stays : List Handling → List (ℕ × Mark) → ℕ → Mark → Type 0
Stays h aside ctx x = In (ctx, x) aside ⊎ ((call : ℕ) × (In (Took call ctx x) h ⊎ In (Dropped call ctx x) h))

pub record Claiming (past : List Event) (h : List Handling) (aside : List (ℕ × Mark)) : Type 0 where
  pub claimed : (ctx : ℕ) (x : Mark) → In (ctx, x) aside → IsFree ctx x h
  pub stays : (ctx : ℕ) (x : Mark) → In (Claimed ctx x) h → Stays h aside ctx x
  pub apart : (c d : ℕ × Mark) → Ahead c d aside → c.1 ≡ d.1 → Never
  pub free : FreeEach h
  pub lost : lost past ≡ put_away h
  pub once : OnceEach past

-- the call took the message into this receive, or dropped it
abbrev pub Takes : Option (Receive × Mark) → ℕ → ℕ → Mark → Handling → Type 0
Takes o call ctx x e = ((r : Receive) × (o ≡ Some (r, x)) × (r.call ≡ call) × (r.ctx ≡ ctx) × (r.least ≡ None) × (e ≡ Took call ctx x)) ⊎ ((o ≡ None) × (e ≡ Dropped call ctx x))

-- what a step adds, where it gives this receive this message, if any
pub data News (past : List Event) (o : Option (Receive × Mark)) (before after : List (ℕ × Mark)) (es : List Event) (hs : List Handling) : Type 0 where
  Still : o ≡ None → Each Dull es → hs ≡ [] → after ≡ before → News past o before after es hs
  Gone : (r : Receive) (x : Mark) (last : Bool) (rest : List Event) → o ≡ Some (r, x) → (In x (gone past) → Never) → es ≡ Got r.call x last ∷ rest → Each Dull rest → hs ≡ [] → after ≡ before → News past o before after es hs
  Put : (ctx : ℕ) (x : Mark) (rest : List Event) → o ≡ None → (In x (gone past) → Never) → es ≡ Lost x ∷ rest → Each Dull rest → hs ≡ Claimed ctx x ∷ [] → after ≡ before ++ (ctx, x) ∷ [] → News past o before after es hs
  Thrown : (call : ℕ) (x : Mark) (rest : List Event) → o ≡ None → (In x (gone past) → Never) → es ≡ Lost x ∷ rest → Each Dull rest → hs ≡ Discarded call x ∷ [] → after ≡ before → News past o before after es hs
  Freed : (call ctx : ℕ) (x : Mark) (e : Handling) → Takes o call ctx x e → Each Dull es → hs ≡ e ∷ [] → In (ctx, x) before → Loses (ctx, x) before after true → News past o before after es hs

-- ---- dull events

module _ (past : List Event) where
  dull_gone : (es : List Event) → Each Dull es → gone (es ++ past) ≡ gone past
  dull_gone [] dull = refl
  dull_gone (Came m ∷ es) dull = dull_gone es dull.1
  dull_gone (Made w ∷ es) dull = dull_gone es dull.1
  dull_gone (Got call m last ∷ es) dull = never dull.0
  dull_gone (Lost m ∷ es) dull = never dull.0
  dull_gone (Cancelled call ∷ es) dull = dull_gone es dull.1

  dull_lost : (es : List Event) → Each Dull es → lost (es ++ past) ≡ lost past
  dull_lost [] dull = refl
  dull_lost (Came m ∷ es) dull = dull_lost es dull.1
  dull_lost (Made w ∷ es) dull = dull_lost es dull.1
  dull_lost (Got call m last ∷ es) dull = never dull.0
  dull_lost (Lost m ∷ es) dull = never dull.0
  dull_lost (Cancelled call ∷ es) dull = dull_lost es dull.1

  dull_once : (es : List Event) → Each Dull es → OnceEach past → OnceEach (es ++ past)
  dull_once [] dull once = once
  dull_once (Came m ∷ es) dull once = dull_once es dull.1 once
  dull_once (Made w ∷ es) dull once = dull_once es dull.1 once
  dull_once (Got call m last ∷ es) dull once = never dull.0
  dull_once (Lost m ∷ es) dull once = never dull.0
  dull_once (Cancelled call ∷ es) dull once = dull_once es dull.1 once

  pub dull_got : (es : List Event) → Each Dull es → (call : ℕ) (x : Mark) (last : Bool) → In (Got call x last) (es ++ past) → In (Got call x last) past
  dull_got [] dull call x last i = i
  dull_got (Came m ∷ es) dull call x last (inl e) = absurd (cc (e))
  dull_got (Came m ∷ es) dull call x last (inr i) = dull_got es dull.1 call x last i
  dull_got (Made w ∷ es) dull call x last (inl e) = absurd (cc (e))
  dull_got (Made w ∷ es) dull call x last (inr i) = dull_got es dull.1 call x last i
  dull_got (Got c m l ∷ es) dull call x last i = never dull.0
  dull_got (Lost m ∷ es) dull call x last i = never dull.0
  dull_got (Cancelled c ∷ es) dull call x last (inl e) = absurd (cc (e))
  dull_got (Cancelled c ∷ es) dull call x last (inr i) = dull_got es dull.1 call x last i

-- ---- who got a message

pub got_gone : (call : ℕ) (x : Mark) (last : Bool) (past : List Event) → In (Got call x last) past → In x (gone past)
got_gone call x last [] i = never i
got_gone call x last (Came m ∷ past) (inl e) = absurd (cc (e))
got_gone call x last (Came m ∷ past) (inr i) = got_gone call x last past i
got_gone call x last (Made w ∷ past) (inl e) = absurd (cc (e))
got_gone call x last (Made w ∷ past) (inr i) = got_gone call x last past i
got_gone call x last (Got c m l ∷ past) (inl e) = inl (let f : x ≡ m = cc (e) in f)
got_gone call x last (Got c m l ∷ past) (inr i) = inr (got_gone call x last past i)
got_gone call x last (Lost m ∷ past) (inl e) = absurd (cc (e))
got_gone call x last (Lost m ∷ past) (inr i) = inr (got_gone call x last past i)
got_gone call x last (Cancelled c ∷ past) (inl e) = absurd (cc (e))
got_gone call x last (Cancelled c ∷ past) (inr i) = got_gone call x last past i

-- ---- what was claimed has gone

put_in : (ctx : ℕ) (x : Mark) (h : List Handling) → In (Claimed ctx x) h → In x (put_away h)
put_in ctx x [] i = never i
put_in ctx x (Claimed c y ∷ h) (inl e) = inl (let f : x ≡ y = cc (e) in f)
put_in ctx x (Claimed c y ∷ h) (inr i) = inr (put_in ctx x h i)
put_in ctx x (Took call c y ∷ h) (inl e) = absurd (cc (e))
put_in ctx x (Took call c y ∷ h) (inr i) = put_in ctx x h i
put_in ctx x (Dropped call c y ∷ h) (inl e) = absurd (cc (e))
put_in ctx x (Dropped call c y ∷ h) (inr i) = put_in ctx x h i
put_in ctx x (Discarded call y ∷ h) (inl e) = absurd (cc (e))
put_in ctx x (Discarded call y ∷ h) (inr i) = inr (put_in ctx x h i)
put_in ctx x (Slipped y ∷ h) (inl e) = absurd (cc (e))
put_in ctx x (Slipped y ∷ h) (inr i) = put_in ctx x h i

lost_gone : (x : Mark) (past : List Event) → In x (lost past) → In x (gone past)
lost_gone x [] i = i
lost_gone x (Came m ∷ past) i = lost_gone x past i
lost_gone x (Made w ∷ past) i = lost_gone x past i
lost_gone x (Got call m last ∷ past) i = inr (lost_gone x past i)
lost_gone x (Lost m ∷ past) (inl e) = inl e
lost_gone x (Lost m ∷ past) (inr i) = inr (lost_gone x past i)
lost_gone x (Cancelled call ∷ past) i = lost_gone x past i

pub freed_claimed : (x : Mark) (h : List Handling) → FreeEach h → In x (freed h) → (ctx : ℕ) × In (Claimed ctx x) h
freed_claimed x [] free i = never i
freed_claimed x (Claimed c y ∷ h) free i = let r = freed_claimed x h free i in (r.0, inr r.1)
freed_claimed x (Took call c y ∷ h) free (inl e) = (c, inr (subst (λ z. In (Claimed c z) h) (sym e) free.0.0))
freed_claimed x (Took call c y ∷ h) free (inr i) = let r = freed_claimed x h free.1 i in (r.0, inr r.1)
freed_claimed x (Dropped call c y ∷ h) free (inl e) = (c, inr (subst (λ z. In (Claimed c z) h) (sym e) free.0.0))
freed_claimed x (Dropped call c y ∷ h) free (inr i) = let r = freed_claimed x h free.1 i in (r.0, inr r.1)
freed_claimed x (Discarded call y ∷ h) free i = let r = freed_claimed x h free i in (r.0, inr r.1)
freed_claimed x (Slipped y ∷ h) free i = never free

module _ (past : List Event) (h : List Handling) (aside : List (ℕ × Mark)) (kept : Claiming past h aside) where
  pub claimed_gone : (ctx : ℕ) (x : Mark) → In (Claimed ctx x) h → In x (gone past)
  claimed_gone ctx x i = lost_gone x past (subst (In x) (sym kept.lost) (put_in ctx x h i))

  -- a message that had not gone was not claimed, and not freed
  not_freed : (x : Mark) → (In x (gone past) → Never) → In x (freed h) → Never
  not_freed x fresh i = let c = freed_claimed x h kept.free i in fresh (claimed_gone c.0 x c.1)

  -- ---- each step

  stays_more : (e : Handling) (ctx : ℕ) (x : Mark) → Stays h aside ctx x → Stays (e ∷ h) aside ctx x
  stays_more e ctx x (inl i) = inl i
  stays_more e ctx x (inr (call, inl i)) = inr (call, inl (inr i))
  stays_more e ctx x (inr (call, inr i)) = inr (call, inr (inr i))

  still : (es : List Event) → Each Dull es → Claiming (es ++ past) h aside
  still es dull = record {
    claimed = kept.claimed;
    stays = kept.stays;
    apart = kept.apart;
    free = kept.free;
    lost = dull_lost past es dull ∙ kept.lost;
    once = dull_once past es dull kept.once;
  }

  got : (call : ℕ) (x : Mark) (last : Bool) (rest : List Event) → (In x (gone past) → Never) → Each Dull rest → Claiming (Got call x last ∷ rest ++ past) h aside
  got call x last rest fresh dull = record {
    claimed = kept.claimed;
    stays = kept.stays;
    apart = kept.apart;
    free = kept.free;
    lost = dull_lost past rest dull ∙ kept.lost;
    once = (λ i. fresh (subst (In x) (dull_gone past rest dull) i), dull_once past rest dull kept.once);
  }

  put : (ctx : ℕ) (x : Mark) (rest : List Event) → (In x (gone past) → Never) → Each Dull rest → Claiming (Lost x ∷ rest ++ past) (Claimed ctx x ∷ h) (aside ++ (ctx, x) ∷ [])
  put ctx x rest fresh dull = record {
    claimed = λ c y i. elim (in_end (c, y) (ctx, x) aside i) [
      | inl j ↦ (let k = kept.claimed c y j in (inr k.0, k.1))
      | inr e ↦ (
          let f : c ≡ ctx = ap (λ (z : ℕ × Mark). z.0) e in
          let g : y ≡ x = ap (λ (z : ℕ × Mark). z.1) e in
          (inl (ap (λ (z : ℕ × Mark). Claimed z.0 z.1) e), λ j. not_freed x fresh (subst (λ z. In z (freed h)) g j)))
    ];
    stays = λ c y i. elim i [
      | inl e ↦ inl (
          let f : (c, y) ≡ (ctx, x) = (let g : c ≡ ctx = cc (e) in let k : y ≡ x = cc (e) in ap (λ n. (n, y)) g ∙ ap (λ z. (ctx, z)) k) in
          subst (λ z. In z (aside ++ (ctx, x) ∷ [])) (sym f) (in_middle (ctx, x) aside []))
      | inr j ↦ elim (kept.stays c y j) [ inl k ↦ inl (in_front (c, y) aside ((ctx, x) ∷ []) k) | inr k ↦ elim k.1 [ inl t ↦ inr (k.0, inl (inr t)) | inr d ↦ inr (k.0, inr (inr d)) ] ]
    ];
    apart = λ c d a same. elim (ahead_end c d (ctx, x) aside a) [
      | inl b ↦ kept.apart c d b same
      | inr (i, e) ↦ (
          let was = kept.claimed c.0 c.1 i in
          let f : c.1 ≡ x = same ∙ ap (λ (z : ℕ × Mark). z.1) e in
          fresh (subst (λ z. In z (gone past)) f (claimed_gone c.0 c.1 was.0)))
    ];
    free = kept.free;
    lost = ap (λ xs. x ∷ xs) (dull_lost past rest dull ∙ kept.lost);
    once = (λ i. fresh (subst (In x) (dull_gone past rest dull) i), dull_once past rest dull kept.once);
  }

  thrown : (call : ℕ) (x : Mark) (rest : List Event) → (In x (gone past) → Never) → Each Dull rest → Claiming (Lost x ∷ rest ++ past) (Discarded call x ∷ h) aside
  thrown call x rest fresh dull = record {
    claimed = λ c y i. (let k = kept.claimed c y i in (inr k.0, k.1));
    stays = λ c y i. elim i [ inl e ↦ absurd (cc (e)) | inr j ↦ stays_more (Discarded call x) c y (kept.stays c y j) ];
    apart = kept.apart;
    free = kept.free;
    lost = ap (λ xs. x ∷ xs) (dull_lost past rest dull ∙ kept.lost);
    once = (λ i. fresh (subst (In x) (dull_gone past rest dull) i), dull_once past rest dull kept.once);
  }

  module _ (call ctx : ℕ) (x : Mark) (after : List (ℕ × Mark)) (there : In (ctx, x) aside) (loses : Loses (ctx, x) aside after true) where
    -- what stays aside is another message
    differs : (c : ℕ) (y : Mark) → In (c, y) after → y ≡ x → Never
    differs c y i same = elim (two aside (c, y) (ctx, x) (loses.within (c, y) i) there) [
      | inl e ↦ (let twice = loses.twice refl (subst (λ z. In z after) e i) in kept.apart (ctx, x) (ctx, x) twice refl)
      | inr way ↦ elim way [ inl a ↦ kept.apart (c, y) (ctx, x) a same | inr a ↦ kept.apart (ctx, x) (c, y) a (sym same) ]
    ]
      where
        two : (xs : List (ℕ × Mark)) (u w : ℕ × Mark) → In u xs → In w xs → (u ≡ w) ⊎ (Ahead u w xs ⊎ Ahead w u xs)
        two [] u w i j = never i
        two (z ∷ xs) u w (inl e) (inl f) = inl (e ∙ sym f)
        two (z ∷ xs) u w (inl e) (inr j) = inr (inl (inl (e, j)))
        two (z ∷ xs) u w (inr i) (inl f) = inr (inr (inl (f, i)))
        two (z ∷ xs) u w (inr i) (inr j) = elim (two xs u w i j) [ inl e ↦ inl e | inr way ↦ elim way [ inl a ↦ inr (inl (inr a)) | inr a ↦ inr (inr (inr a)) ] ]

    module _ (e : Handling) (puts : put_away (e ∷ h) ≡ put_away h) (frees : freed (e ∷ h) ≡ x ∷ freed h) (now : (call : ℕ) × (In (Took call ctx x) (e ∷ h) ⊎ In (Dropped call ctx x) (e ∷ h))) (rights : FreeEach (e ∷ h)) (no_claim : (c : ℕ) (y : Mark) → Claimed c y ≡ e → Never) (es : List Event) (dull : Each Dull es) where
      goes : Claiming (es ++ past) (e ∷ h) after
      goes = record {
        claimed = λ c y i. (
            let k = kept.claimed c y (loses.within (c, y) i) in
            (inr k.0, λ j. elim (let z : In y (x ∷ freed h) = subst (In y) frees j in z) [ inl same ↦ differs c y i same | inr l ↦ k.1 l ]));
        stays = λ c y i. elim i [
          | inl f ↦ never (no_claim c y f)
          | inr j ↦ elim (kept.stays c y j) [
            | inl k ↦ elim (loses.stays (c, y) k) [
              | inl l ↦ inl l
              | inr (f, t) ↦ inr (
                now.0,
                (let g : ctx ≡ c = ap (λ (z : ℕ × Mark). z.0) (sym f) in let l : x ≡ y = ap (λ (z : ℕ × Mark). z.1) (sym f) in
                    subst (λ n. In (Took now.0 n y) (e ∷ h) ⊎ In (Dropped now.0 n y) (e ∷ h)) g (subst (λ z. In (Took now.0 ctx z) (e ∷ h) ⊎ In (Dropped now.0 ctx z) (e ∷ h)) l now.1)),
              )
            ]
            | inr k ↦ elim k.1 [ inl t ↦ inr (k.0, inl (inr t)) | inr d ↦ inr (k.0, inr (inr d)) ]
          ]
        ];
        apart = λ c d a same. kept.apart c d (loses.order c d a) same;
        free = rights;
        lost = dull_lost past es dull ∙ kept.lost ∙ sym puts;
        once = dull_once past es dull kept.once;
      }

    freeing : (e : Handling) (o : Option (Receive × Mark)) → Takes o call ctx x e → (es : List Event) → Each Dull es → Claiming (es ++ past) (e ∷ h) after
    freeing e o (inl (r, given, number, context, least, is)) es dull = subst (λ f. Claiming (es ++ past) (f ∷ h) after) (sym is)
        (goes (Took call ctx x) refl refl (call, inl (inl refl)) (kept.claimed ctx x there, kept.free) (λ c y f. absurd (cc (f))) es dull)
    freeing e o (inr (none, is)) es dull = subst (λ f. Claiming (es ++ past) (f ∷ h) after) (sym is)
        (goes (Dropped call ctx x) refl refl (call, inr (inl refl)) (kept.claimed ctx x there, kept.free) (λ c y f. absurd (cc (f))) es dull)

  pub news_claims : (o : Option (Receive × Mark)) (after : List (ℕ × Mark)) (es : List Event) (hs : List Handling) → News past o aside after es hs → Claiming (es ++ past) (hs ++ h) after
  news_claims o after es hs (Still whose dull none same) = rw (none, same) (still es dull)
  news_claims o after es hs (Gone r x last rest whose fresh is dull none same) = rw (is, none, same) (got r.call x last rest fresh dull)
  news_claims o after es hs (Put ctx x rest whose fresh is dull one more) = rw (is, one, more) (put ctx x rest fresh dull)
  news_claims o after es hs (Thrown call x rest whose fresh is dull one same) = rw (is, one, same) (thrown call x rest fresh dull)
  news_claims o after es hs (Freed call ctx x e whose dull one there loses) = rw (one) (freeing call ctx x after there loses e o whose es dull)

-- ---- which messages a step gives to receives

module _ (past : List Event) (h : List Handling) (o : Option (Receive × Mark)) (before after : List (ℕ × Mark)) (es : List Event) (hs : List Handling) where
  same_got : (c d : ℕ) (x y : Mark) (l k : Bool) → Got c x l ≡ Got d y k → (c ≡ d) × (x ≡ y)
  same_got c d x y l k e = (cc (e), cc (e))

  -- whoever got a message got it before, or now
  pub got_now : News past o before after es hs → (call : ℕ) (x : Mark) (last : Bool) → In (Got call x last) (es ++ past) → In (Got call x last) past ⊎ ((r : Receive) × (o ≡ Some (r, x)) × (r.call ≡ call))
  got_now (Still whose dull none same) call x last i = inl (dull_got past es dull call x last i)
  got_now (Gone r y l rest whose fresh is dull none same) call x last i = elim (let j : In (Got call x last) (Got r.call y l ∷ rest ++ past) = subst (λ (zs : List Event). In (Got call x last) (zs ++ past)) is i in j) [
    | inl e ↦ (let f = same_got call r.call x y last l e in inr (r, whose ∙ ap (λ z. Some (r, z)) (sym f.1), sym f.0))
    | inr j ↦ inl (dull_got past rest dull call x last j)
  ]
  got_now (Put ctx y rest whose fresh is dull one more) call x last i = elim (let j : In (Got call x last) (Lost y ∷ rest ++ past) = subst (λ (zs : List Event). In (Got call x last) (zs ++ past)) is i in j) [
    | inl e ↦ absurd (cc (e))
    | inr j ↦ inl (dull_got past rest dull call x last j)
  ]
  got_now (Thrown number y rest whose fresh is dull one same) call x last i = elim (let j : In (Got call x last) (Lost y ∷ rest ++ past) = subst (λ (zs : List Event). In (Got call x last) (zs ++ past)) is i in j) [
    | inl e ↦ absurd (cc (e))
    | inr j ↦ inl (dull_got past rest dull call x last j)
  ]
  got_now (Freed number ctx y e whose dull one there loses) call x last i = inl (dull_got past es dull call x last i)

  same_took : (c d k l : ℕ) (x y : Mark) → Took c k x ≡ Took d l y → (c ≡ d) × (x ≡ y)
  same_took c d k l x y e = (cc (e), cc (e))

  -- so of a call that took one of those set aside
  pub took_now : News past o before after es hs → (call ctx : ℕ) (x : Mark) → In (Took call ctx x) (hs ++ h) → In (Took call ctx x) h ⊎ ((r : Receive) × (o ≡ Some (r, x)) × (r.call ≡ call))
  took_now (Still whose dull none same) call ctx x i = inl (subst (λ (zs : List Handling). In (Took call ctx x) (zs ++ h)) none i)
  took_now (Gone r y l rest whose fresh is dull none same) call ctx x i = inl (subst (λ (zs : List Handling). In (Took call ctx x) (zs ++ h)) none i)
  took_now (Put c y rest whose fresh is dull one more) call ctx x i = elim (let j : In (Took call ctx x) (Claimed c y ∷ h) = subst (λ (zs : List Handling). In (Took call ctx x) (zs ++ h)) one i in j) [ inl e ↦ absurd (cc (e)) | inr j ↦ inl j ]
  took_now (Thrown number y rest whose fresh is dull one same) call ctx x i = elim (let j : In (Took call ctx x) (Discarded number y ∷ h) = subst (λ (zs : List Handling). In (Took call ctx x) (zs ++ h)) one i in j) [ inl e ↦ absurd (cc (e)) | inr j ↦ inl j ]
  took_now (Freed number c y e (inl (r, given, same, context, least, is)) dull one there loses) call ctx x i = elim (let j : In (Took call ctx x) (Took number c y ∷ h) = subst (λ (zs : List Handling). In (Took call ctx x) (zs ++ h)) (one ∙ ap (λ z. z ∷ []) is) i in j) [
    | inl e ↦ (let f = same_took call number ctx c x y e in inr (r, given ∙ ap (λ z. Some (r, z)) (sym f.1), same ∙ sym f.0))
    | inr j ↦ inl j
  ]
  took_now (Freed number c y e (inr (none, is)) dull one there loses) call ctx x i = elim (let j : In (Took call ctx x) (Dropped number c y ∷ h) = subst (λ (zs : List Handling). In (Took call ctx x) (zs ++ h)) (one ∙ ap (λ z. z ∷ []) is) i in j) [ inl e ↦ absurd (cc (e)) | inr j ↦ inl j ]

  -- and the histories tell it
  pub went_now : News past o before after es hs → (r : Receive) (x : Mark) → o ≡ Some (r, x) → WentTo (es ++ past) (hs ++ h) r x
  went_now (Still whose dull none same) r x e = absurd (let f : None ≡ Some (r, x) = sym whose ∙ e in cc (f))
  went_now (Gone q y l rest whose fresh is dull none same) r x e =
      let f : (r, x) ≡ (q, y) = some_same (r, x) (q, y) (sym e ∙ whose) in
      let g : r ≡ q = ap (λ (z : Receive × Mark). z.0) f in let k : x ≡ y = ap (λ (z : Receive × Mark). z.1) f in
      inl (l, subst (λ (zs : List Event). In (Got r.call x l) (zs ++ past)) (sym is) (inl (ap₂ (λ (c : ℕ) (m : Mark). Got c m l) (ap (λ (z : Receive). z.call) g) k)))
  went_now (Put c y rest whose fresh is dull one more) r x e = absurd (let f : None ≡ Some (r, x) = sym whose ∙ e in cc (f))
  went_now (Thrown number y rest whose fresh is dull one same) r x e = absurd (let f : None ≡ Some (r, x) = sym whose ∙ e in cc (f))
  went_now (Freed number c y f (inl (q, given, same, context, least, is)) dull one there loses) r x e =
      let k : (r, x) ≡ (q, y) = some_same (r, x) (q, y) (sym e ∙ given) in
      let g : r ≡ q = ap (λ (z : Receive × Mark). z.0) k in let l : x ≡ y = ap (λ (z : Receive × Mark). z.1) k in
      inr (subst (λ (zs : List Handling). In (Took r.call r.ctx x) (zs ++ h)) (sym one)
      (inl (ap (λ (z : Receive). Took z.call z.ctx x) g ∙ ap₂ (λ (i j : ℕ). Took i j x) same context ∙ ap (Took number c) l ∙ sym is)))
  went_now (Freed number c y f (inr (none, is)) dull one there loses) r x e = absurd (let g : None ≡ Some (r, x) = sym none ∙ e in cc (g))

-- ---- what the recursion says at each place

pub frees_claimed : (h : List Handling) → FreeEach h → FreesClaimed h
frees_claimed h free later before e call ctx x is frees = go h later free is
  where
    here : (e : Handling) (h : List Handling) → FreeEach (e ∷ h) → Frees call ctx x e → IsFree ctx x h
    here e h free (inl f) = (let g : FreeEach (Took call ctx x ∷ h) = subst (λ z. FreeEach (z ∷ h)) f free in g.0)
    here e h free (inr f) = (let g : FreeEach (Dropped call ctx x ∷ h) = subst (λ z. FreeEach (z ∷ h)) f free in g.0)

    rest : (z : Handling) (zs : List Handling) → FreeEach (z ∷ zs) → FreeEach zs
    rest (Claimed c y) zs free = free
    rest (Took k c y) zs free = free.1
    rest (Dropped k c y) zs free = free.1
    rest (Discarded k y) zs free = free
    rest (Slipped y) zs free = never free

    back : (later : List Handling) → FreeEach (later ++ e ∷ before) → IsFree ctx x before
    back [] free = here e before free frees
    back (z ∷ zs) free = back zs (rest z (zs ++ e ∷ before) free)

    go : (h later : List Handling) → FreeEach h → h ≡ later ++ e ∷ before → IsFree ctx x before
    go h later free is = back later (subst FreeEach is free)

pub none_slips : (h : List Handling) → FreeEach h → NoneSlips h
none_slips [] free x i = i
none_slips (Claimed c y ∷ h) free x (inl e) = absurd (cc (e))
none_slips (Claimed c y ∷ h) free x (inr i) = none_slips h free x i
none_slips (Took k c y ∷ h) free x (inl e) = absurd (cc (e))
none_slips (Took k c y ∷ h) free x (inr i) = none_slips h free.1 x i
none_slips (Dropped k c y ∷ h) free x (inl e) = absurd (cc (e))
none_slips (Dropped k c y ∷ h) free x (inr i) = none_slips h free.1 x i
none_slips (Discarded k y ∷ h) free x (inl e) = absurd (cc (e))
none_slips (Discarded k y ∷ h) free x (inr i) = none_slips h free x i
none_slips (Slipped y ∷ h) free x i = never free

pub leaves_once : (past : List Event) → OnceEach past → LeavesOnce past
leaves_once past once later before e x is lets = back later (subst OnceEach is once)
  where
    here : (e : Event) (past : List Event) → OnceEach (e ∷ past) → LetsGo x e → In x (gone past) → Never
    here e past once (inl (call, last, f)) = (let g : OnceEach (Got call x last ∷ past) = subst (λ z. OnceEach (z ∷ past)) f once in g.0)
    here e past once (inr f) = (let g : OnceEach (Lost x ∷ past) = subst (λ z. OnceEach (z ∷ past)) f once in g.0)

    rest : (z : Event) (zs : List Event) → OnceEach (z ∷ zs) → OnceEach zs
    rest (Came m) zs once = once
    rest (Made w) zs once = once
    rest (Got call m last) zs once = once.1
    rest (Lost m) zs once = once.1
    rest (Cancelled call) zs once = once

    back : (later : List Event) → OnceEach (later ++ e ∷ before) → In x (gone before) → Never
    back [] once = here e before once lets
    back (z ∷ zs) once = back zs (rest z (zs ++ e ∷ before) once)
