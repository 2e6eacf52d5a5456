use Rattle.std.proofs.Common.{ℕ, ◌<◌, List, [], ◌∷◌, ◌++◌, length, sym, refl, ap, ◌∙◌, subst}
use Rattle.std.specs.Prelude.{Some, IsSome}
use Rattle.fab_link.specs.declared.moves.Move.{Move}
use Rattle.fab_link.specs.declared.moves.Move.TheVariants.{Take}
use Rattle.fab_table.specs.declared.kinds.Sent.{Sent}
use Rattle.fab_table.specs.declared.kinds.In.{In}
use Rattle.fab_table.specs.declared.kinds.Part.{Part}
use Rattle.fab_table.specs.Views.{part_at, in_at, taken_one}
use Rattle.fab_ring.specs.Ports.{incoming}
use Rattle.fab_ring.proofs.Clauses.{advancing, frame_opened, in_here, known_in, others_in, outs_in, out_in}
use Rattle.fab_ring.proofs.meaning.RingPortPort.advance.Goals as goal

pub take-requires : goal.take-requires
take-requires c = let open_now = frame_opened (in_at (part_at c.args.self.now.seat.seat.me.0 0) c.args.src).opened c.requires.lent in (c.requires.below, subst IsSome (sym open_now.1) refl)

pub returns-clause-taken : goal.returns-clause-taken
returns-clause-taken c = let q = c.args.self.now in let n = c.take.new.self in let s : ℕ = c.args.src in let p : Part = part_at q.seat.seat.me.0 0 in let p' : Part = part_at n.seat.seat.me.0 0 in let near : s < length p.ins = subst (λ (z : ℕ). s < z) (sym q.fits.all_ins) c.requires.below in
    let open_now = frame_opened (in_at p s).opened c.requires.lent in let x : Sent = open_now.0 in let u : In = taken_one (in_at p s) x in let ms : List Move = p.moves ++ Take s x.number ∷ [] in let did = c.take.ensures.taken x open_now.1 in
    ap incoming (in_here p p' s u ms near did) ∙ advancing (in_at p s) x open_now.1

pub returns-clause-moves : goal.returns-clause-moves
returns-clause-moves c = let q = c.args.self.now in let n = c.take.new.self in let s : ℕ = c.args.src in let p : Part = part_at q.seat.seat.me.0 0 in let p' : Part = part_at n.seat.seat.me.0 0 in let near : s < length p.ins = subst (λ (z : ℕ). s < z) (sym q.fits.all_ins) c.requires.below in
    let open_now = frame_opened (in_at p s).opened c.requires.lent in let x : Sent = open_now.0 in let u : In = taken_one (in_at p s) x in let ms : List Move = p.moves ++ Take s x.number ∷ [] in let did = c.take.ensures.taken x open_now.1 in
    (x.number, ap (λ (z : Part). Some z.moves) did)

pub returns-clause-others : goal.returns-clause-others
returns-clause-others c = let q = c.args.self.now in let n = c.take.new.self in let s : ℕ = c.args.src in let p : Part = part_at q.seat.seat.me.0 0 in let p' : Part = part_at n.seat.seat.me.0 0 in let near : s < length p.ins = subst (λ (z : ℕ). s < z) (sym q.fits.all_ins) c.requires.below in
    let open_now = frame_opened (in_at p s).opened c.requires.lent in let x : Sent = open_now.0 in let u : In = taken_one (in_at p s) x in let ms : List Move = p.moves ++ Take s x.number ∷ [] in let did = c.take.ensures.taken x open_now.1 in
    others_in p p' s u ms near did

pub returns-clause-outgoing : goal.returns-clause-outgoing
returns-clause-outgoing c = let q = c.args.self.now in let n = c.take.new.self in let s : ℕ = c.args.src in let p : Part = part_at q.seat.seat.me.0 0 in let p' : Part = part_at n.seat.seat.me.0 0 in let near : s < length p.ins = subst (λ (z : ℕ). s < z) (sym q.fits.all_ins) c.requires.below in
    let open_now = frame_opened (in_at p s).opened c.requires.lent in let x : Sent = open_now.0 in let u : In = taken_one (in_at p s) x in let ms : List Move = p.moves ++ Take s x.number ∷ [] in let did = c.take.ensures.taken x open_now.1 in
    out_in p p' s u ms near did

pub returns-clause-others_known : goal.returns-clause-others_known
returns-clause-others_known c = let q = c.args.self.now in let n = c.take.new.self in let s : ℕ = c.args.src in let p : Part = part_at q.seat.seat.me.0 0 in let p' : Part = part_at n.seat.seat.me.0 0 in let near : s < length p.ins = subst (λ (z : ℕ). s < z) (sym q.fits.all_ins) c.requires.below in
    let open_now = frame_opened (in_at p s).opened c.requires.lent in let x : Sent = open_now.0 in let u : In = taken_one (in_at p s) x in let ms : List Move = p.moves ++ Take s x.number ∷ [] in let did = c.take.ensures.taken x open_now.1 in
    known_in p p' s u ms near did

pub returns-clause-outgoing_known : goal.returns-clause-outgoing_known
returns-clause-outgoing_known c = let q = c.args.self.now in let n = c.take.new.self in let s : ℕ = c.args.src in let p : Part = part_at q.seat.seat.me.0 0 in let p' : Part = part_at n.seat.seat.me.0 0 in let near : s < length p.ins = subst (λ (z : ℕ). s < z) (sym q.fits.all_ins) c.requires.below in
    let open_now = frame_opened (in_at p s).opened c.requires.lent in let x : Sent = open_now.0 in let u : In = taken_one (in_at p s) x in let ms : List Move = p.moves ++ Take s x.number ∷ [] in let did = c.take.ensures.taken x open_now.1 in
    outs_in p p' s u ms near did
