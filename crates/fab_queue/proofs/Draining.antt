-- All that is inside a lane is taken out.
use Rattle.std.proofs.Common.{◌≡◌, ℕ, ◌+◌, ◌-◌, ◌<◌, ◌≤◌, true, List, [], ◌∷◌, ◌++◌, length, sym, refl, ap, ◌∙◌, subst, arith, append_assoc, append-nil, length-append}
use mathlib.Core.List.{map-append}
use Rattle.std.specs.Prelude.{Option, None, option_to_list}
use Rattle.std.proofs.lemmas.List.{length_push as length_more}
use Rattle.fab_base.specs.declared.frames.FrameHead.{FrameHead}
use Rattle.fab_base.specs.declared.frames.Frame.{Frame}
use Rattle.fab_link.specs.Frames.{IsLane}
use Rattle.fab_queue.specs.declared.lane.Sent.{Sent}
use Rattle.fab_queue.specs.declared.lane.Log.{Log}
use Rattle.fab_queue.specs.Lanes.{frame_of, frames_of, log, GotOne, Holds}
use Rattle.fab_queue.specs.Ends.{Out, In, MayGet}
use Rattle.fab_queue.specs.Gather.{IsInside, Drained, taken_end_of}
use Rattle.fab_queue.proofs.Lanes.{rest_of}

-- these were got out since the pass knew v and the frames were so many, and these are left inside
pub record Emptying (v : Log) (before : List Frame) (w : Log) (frames : List Frame) (capacity : ℕ) : Type 0 where
  pub since : List Sent
  pub left : List Sent
  pub puts : w.puts ≡ true
  pub gets : w.gets ≡ true
  pub same : w.put ≡ v.put
  pub got : w.got ≡ v.got ++ since
  pub whole : v.put ≡ w.got ++ left
  pub cut : IsLane None (frames_of v.put)
  pub frames_are : frames ≡ before ++ frames_of since
  pub room : length frames + length left ≤ capacity

pub emptying_starts : (v w : Log) (before : List Frame) (n room capacity : ℕ) → v.puts ≡ true → v.gets ≡ true → w ≡ v → n ≤ room → (items : List Sent) × (length items ≡ n) × Holds v items → length before + room ≤ capacity → Emptying v before w before capacity
emptying_starts v w before n room capacity p g is few held fits = let tells = held.2 p in record {
  since = [];
  left = held.0;
  puts = ap (λ (u : Log). u.puts) is ∙ p;
  gets = ap (λ (u : Log). u.gets) is ∙ g;
  same = ap (λ (u : Log). u.put) is;
  got = ap (λ (u : Log). u.got) is ∙ sym (append-nil v.got);
  whole = tells.0 ∙ ap (λ (u : Log). u.got ++ held.0) (sym is);
  cut = tells.1;
  frames_are = sym (append-nil before);
  room = (let e = held.1 in omega arith);
}

-- of two ways to cut one list the one has the one member more
one_less : (put got : List Sent) (x : Sent) (left rest : List Sent) → put ≡ got ++ left → (got ++ x ∷ []) ++ rest ≡ put → length left ≡ length rest + 1
one_less put got x left rest e f = let a = ap length e ∙ length-append got left in let b = sym (length-append (got ++ x ∷ []) rest) ∙ ap length f in let c = length_more got x in omega (arith, a, b, c)

pub emptying_goes_on : (v : Log) (before : List Frame) (w w' : Log) (frames : List Frame) (capacity : ℕ) (x : Sent) → Emptying v before w frames capacity → GotOne w x w' → Emptying v before w' (frames ++ x.frame ∷ []) capacity
emptying_goes_on v before w w' frames capacity x k one = let first = one.first k.puts in let rest = first.0 in let less = one_less w.put w.got x k.left rest (k.same ∙ k.whole) first.1 in let got' : w'.got ≡ w.got ++ x ∷ [] = ap (λ (u : Log). u.got) one.after in record {
  since = k.since ++ x ∷ [];
  left = rest;
  puts = ap (λ (u : Log). u.puts) one.after ∙ k.puts;
  gets = ap (λ (u : Log). u.gets) one.after ∙ k.gets;
  same = ap (λ (u : Log). u.put) one.after ∙ k.same;
  got = got' ∙ ap (λ (l : List Sent). l ++ x ∷ []) k.got ∙ append_assoc v.got k.since (x ∷ []);
  whole = sym k.same ∙ sym first.1 ∙ ap (λ (l : List Sent). l ++ rest) (sym got');
  cut = k.cut;
  frames_are = ap (λ (l : List Frame). l ++ x.frame ∷ []) k.frames_are ∙ append_assoc before (frames_of k.since) (x.frame ∷ []) ∙ ap (λ (l : List Frame). before ++ l) (sym (map-append frame_of k.since (x ∷ [])));
  room = (let a = length_more frames x.frame in let b = k.room in omega (arith, a, b, less));
}

pub emptying_wider : (v : Log) (before : List Frame) (w : Log) (frames : List Frame) (capacity wider : ℕ) → capacity ≤ wider → Emptying v before w frames capacity → Emptying v before w frames wider
emptying_wider v before w frames capacity wider wide k = record { since = k.since; left = k.left; puts = k.puts; gets = k.gets; same = k.same; got = k.got; whole = k.whole; cut = k.cut; frames_are = k.frames_are; room = (let a = k.room in omega (arith, a, wide)) }

-- there is room for the next frame
pub has_room : (v : Log) (before : List Frame) (w w' : Log) (frames : List Frame) (capacity : ℕ) (x : Sent) → Emptying v before w frames capacity → GotOne w x w' → length frames < capacity
has_room v before w w' frames capacity x k one = let first = one.first k.puts in let less = one_less w.put w.got x k.left first.0 (k.same ∙ k.whole) first.1 in let b = k.room in omega (arith, b, less)

-- what is left is less
pub fewer : (w w' : Log) (x : Sent) → w.puts ≡ true → GotOne w x w' → length w'.put - length w'.got < length w.put - length w.got
fewer w w' x p one = let first = one.first p in let a = ap (λ (u : Log). length u.put) one.after in let b = ap (λ (u : Log). length u.got) one.after ∙ length_more w.got x in let c = sym (length-append (w.got ++ x ∷ []) first.0) ∙ ap length first.1 in let d = length_more w.got x in
    omega (arith, a, b, c, d)

none_of : (items : List Sent) → length items ≡ 0 → items ≡ []
none_of [] e = refl
none_of (x ∷ xs) e = absurd (omega arith)

pub emptied : (v : Log) (before : List Frame) (w : Log) (frames : List Frame) (capacity : ℕ) → Emptying v before w frames capacity → (items : List Sent) × (length items ≡ 0) × Holds w items → IsInside v before frames
emptied v before w frames capacity k held = let none = none_of held.0 held.1 in record {
  xs = k.since;
  put = sym k.same ∙ (held.2 k.puts).0 ∙ ap (λ (l : List Sent). w.got ++ l) none ∙ append-nil w.got ∙ k.got;
  after_is = k.frames_are;
  cut = k.cut;
}

pub drained : (o : Out) (i : In) (v w : Log) (end : Option FrameHead) (came : List Frame) → o.posted ≡ v.put → MayGet w i.taken i.lent end → IsInside (log true true v.put w.got) (frames_of (option_to_list i.lent)) came → Drained o i came
drained o i v w end came posted k inside = let first = option_to_list i.lent in let xs = first ++ inside.xs in let whole : v.put ≡ i.taken ++ xs = inside.put ∙ ap (λ (l : List Sent). l ++ inside.xs) k.got ∙ append_assoc i.taken first inside.xs in
    let came_is : came ≡ frames_of xs = inside.after_is ∙ sym (map-append frame_of first inside.xs) in record {
      xs = xs;
      posted = posted ∙ whole;
      came_is = came_is;
      cut = subst (IsLane (taken_end_of i)) (sym came_is) (rest_of i.taken xs (subst (λ (l : List Sent). IsLane None (frames_of l)) whole inside.cut));
    }
