use Rattle.std.proofs.Common.{◌≡◌, ⊎_elim, refl}
use Rattle.fab_base.specs.Elements.{element_size}
use Rattle.fab_atomics.proofs.LittleEndian.{put_rest}
use Rattle.fab_atomics.proofs.numbers.put_number.Goals as goal

pub returns-in-I16-clause-bytes : goal.returns-in-I16-clause-bytes
returns-in-I16-clause-bytes c =
    let size : element_size c.args.num ≡ 2 = ⊎_elim (λ e. rw e refl) (λ e. rw e refl) c.in-I16.is in
    rw size (put_rest 2 c.args.at c.args.x c.args.bytes.now c.write_u16.new.buf (rw size at c.requires.within) c.write_u16.ensures)

pub returns-in-I32-clause-bytes : goal.returns-in-I32-clause-bytes
returns-in-I32-clause-bytes c =
    let size : element_size c.args.num ≡ 4 = ⊎_elim (λ e. rw e refl) (λ e. rw e refl) c.in-I32.is in
    rw size (put_rest 4 c.args.at c.args.x c.args.bytes.now c.write_u32.new.buf (rw size at c.requires.within) c.write_u32.ensures)

pub returns-in-I64-clause-bytes : goal.returns-in-I64-clause-bytes
returns-in-I64-clause-bytes c =
    let size : element_size c.args.num ≡ 8 = ⊎_elim (λ e. rw e refl) (λ e. rw e refl) c.in-I64.is in
    rw size (put_rest 8 c.args.at c.args.x c.args.bytes.now c.write_u64.new.buf (rw size at c.requires.within) c.write_u64.ensures)
