-- A push: all frames for a peer that may go are posted.
use Rattle.std.proofs.Common.{◌⊎◌, inl, inr, ◌≡◌, ◌≤◌, ◌+◌, ◌-◌, min, ℕ, Bool, true, false, ◌||◌, List, [], ◌∷◌, ◌++◌, length, length-append, Some, None, Result, Ok, Err, refl, sym, ap, ◌∙◌, subst, arith}
use Rattle.std.specs.Prelude.{nat_le}
use Rattle.std.specs.List.{list_any}
use Rattle.std.proofs.lemmas.Bool.{and_from}
use Rattle.std.proofs.lemmas.Bool.Decides.{nat_tests}
use Rattle.std.proofs.lemmas.List.Folds.{list_all-append}
use Rattle.fab_base.specs.declared.faults.NoMemory.{NoMemory}
use Rattle.fab_base.specs.declared.frames.Frame.{Frame}
use Rattle.fab_base.specs.declared.items.Item.{Item}
use Rattle.fab_base.proofs.Bools.{or_true, or_false, or_assoc}
use Rattle.fab_link.specs.Joined.{is_last}
use Rattle.fab_face.specs.declared.events.Event.{Event}
use Rattle.fab_face.specs.declared.events.Event.TheVariants.{Sent as Transmitted}
use Rattle.fab_face.specs.Held.{Seen, piece, next_frame}
use Rattle.fab_face.specs.Acts.{Act, Posted, only, is_post}
use Rattle.fab_face.specs.Answers.{HasPlaces}
use Rattle.fab_face.proofs.Joining.{went_none, went_then}
use Rattle.fab_face.proofs.Joining.{ported_same}
use Rattle.fab_ep.specs.declared.endpoint.Tried.{Tried}
use Rattle.fab_ep.specs.declared.endpoint.Tried.TheVariants.{Moved, Nothing, Held as HeldBack, Short}
use Rattle.fab_ep.specs.Tries.{Calm, PostsOut, TriesOut, PushesOut, PushesOn, PushedTo, PushesTo}
use Rattle.fab_ep.proofs.Posting.{last_is}
use Rattle.fab_ep.proofs.Fairness.{full_on}
use Rattle.fab_ep.proofs.Turning.{went_calm}

pub last_by : (item : Item) (place : ℕ) → place ≤ item.head.total → nat_le (item.head.total - place) 4096 ≡ true → is_last (piece item place).head ≡ true
last_by item place within short = last_is item place (at place item.head.total within short)
  where
    at : (p t : ℕ) → p ≤ t → nat_le (t - p) 4096 ≡ true → p + min 4096 (t - p) ≡ t
    at p t within short = grind (arith, nat_tests, within, short)

pub any_append : (test : Act → Bool) (xs ys : List Act) → list_any test (xs ++ ys) ≡ (list_any test xs || list_any test ys)
any_append test [] ys = refl
any_append test (x ∷ xs) ys = ap (λ b. test x || b) (any_append test xs ys) ∙ sym (or_assoc (test x) (list_any test xs) (list_any test ys))

module _ {Home : Type 0} where
  pub tries_of : (a b : Seen Home) (d : ℕ) (r : Result Tried NoMemory) → PostsOut a b d r → TriesOut a b d r
  tries_of a b d (Ok Moved) posts = posts
  tries_of a b d (Ok Nothing) posts = posts
  tries_of a b d (Ok HeldBack) posts = posts
  tries_of a b d (Ok Short) posts = absurd posts
  tries_of a b d (Err why) posts = posts

  pub pushes_of : (a b : Seen Home) (d : ℕ) (r : Result Tried NoMemory) → TriesOut a b d r → HasPlaces a → PushesOut a b d r
  pushes_of a b d (Ok Moved) tries places = tries
  pushes_of a b d (Ok Nothing) tries places = tries
  pushes_of a b d (Ok HeldBack) (calm, (f, next, (last, lacks))) places = (calm, (f, next, (last, inl lacks)))
  pushes_of a b d (Ok Short) (calm, short) places = absurd (omega (arith, short, places))
  pushes_of a b d (Err why) tries places = tries

  calm_places : (a b : Seen Home) → Calm a b → HasPlaces a → HasPlaces b
  calm_places a b calm places = rw (calm.log, calm.size) places

  -- what is posted leaves two places
  pub places_of : (a b : Seen Home) (d : ℕ) (r : Result Tried NoMemory) → TriesOut a b d r → HasPlaces a → (((f : Frame) → next_frame a.held d ≡ Some f → is_last f.head ≡ false) ⊎ (length a.log + 3 ≤ a.log_size)) → HasPlaces b
  places_of a b d (Ok Moved) (f, went) places why =
      let goes = went.goes in
      let next : next_frame a.held d ≡ Some f = goes.1.2 in
      let l = ap length went.log ∙ length-append a.log (only (is_last f.head) (Transmitted d) ++ []) in
      let size = went.size in
      elim why [
        | inl more ↦ (let none : length (only (is_last f.head) (Transmitted d) ++ []) ≡ 0 = ap (λ x. length (only x (Transmitted d) ++ [])) (more f next) in omega (arith, l, none, size, places))
        | inr three ↦ (let one = one_event (is_last f.head) (Transmitted d) in omega (arith, l, one, size, three))
      ]
    where
      one_event : (x : Bool) (e : Event) → length (only x e ++ []) ≤ 1
      one_event true e = omega arith
      one_event false e = omega arith
  places_of a b d (Ok Nothing) tries places why = calm_places a b (let c = tries.0 in c.calm) places
  places_of a b d (Ok HeldBack) tries places why = calm_places a b (let c = tries.0 in c.calm) places
  places_of a b d (Ok Short) tries places why = calm_places a b tries.0 places
  places_of a b d (Err why') tries places why = calm_places a b tries places

  -- ---- frame after frame

  pub posting_none : (a : Seen Home) (d : ℕ) → PushedTo a a d false
  posting_none a d = record { acts = []; push = refl; went = went_none None a a refl refl refl (ported_same a.lanes a.lanes refl); pushed = sym (or_false a.pushed); tried = λ is. absurd (cc) }

  pub posting_on : (a e e1 : Seen Home) (d k : ℕ) → PushedTo a e k false → PushesOn e e1 d (Ok true) → PushedTo a e1 d false
  posting_on a e e1 d k was ((f, went), flag) = record {
    acts = was.acts ++ Posted d f ∷ [];
    push = list_all-append is_post was.acts (Posted d f ∷ []) ∙ and_from _ _ was.push refl;
    went = went_then None a e e1 was.acts (Posted d f ∷ []) was.went went;
    pushed = flag ∙ sym (ap (λ b. a.pushed || b) (any_append is_post was.acts (Posted d f ∷ []) ∙ or_true (list_any is_post was.acts)) ∙ or_true a.pushed);
    tried = λ is. absurd (cc);
  }

  pub pushed_end : (a e e1 : Seen Home) (d k : ℕ) → PushedTo a e k false → PushesOn e e1 d (Ok false) → PushedTo a e1 d true
  pushed_end a e e1 d k was (calm, tried, flag) = record {
    acts = was.acts;
    push = was.push;
    went = went_calm a e e1 was.acts was.went calm.calm;
    pushed = flag ∙ was.pushed;
    tried = λ is f next. elim (tried f next) [ inl full ↦ inl (full_on a e e1 was.acts d was.went full) | inr held ↦ inr held ];
  }

  pub pushed_err : (a e e1 : Seen Home) (d k : ℕ) (r : Result (Unit {0}) NoMemory) (s : Result Bool NoMemory) (why why' : NoMemory) → r ≡ Err why → s ≡ Err why' → PushedTo a e k false → PushesOn e e1 d s → PushesTo a e1 d r
  pushed_err a e e1 d k r s why why' is is' was on = rw is (let calm : Calm e e1 × (e1.pushed ≡ e.pushed) = subst (λ (x : Result Bool NoMemory). PushesOn e e1 d x) is' on in record {
    acts = was.acts;
    push = was.push;
    went = went_calm a e e1 was.acts was.went calm.0;
    pushed = calm.1 ∙ was.pushed;
    tried = λ is. absurd (cc);
  })
