use Rattle.fabric_uses.proofs.completing.answer_to.Goals as goal

pub returns-in-Some : goal.returns-in-Some
returns-in-Some g c = λ t. record {
  ctx = c.in-Some.came.ctx;
  source = c.in-Some.came.source;
  tag = c.in-Some.came.tag;
  imm = c.in-Some.came.imm;
  len = c.in-Some.came.len;
  buf = c.in-Some.came.buf;
  came = c.in-Some.ensures;
  back = c.send_to_peer.ensures t;
}
