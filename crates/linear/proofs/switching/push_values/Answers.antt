use Rattle.std.proofs.Common.{◌≡◌, ◌++◌, ◌<◌, ℕ, List, All, drop, sym, ap, ◌∙◌, append_assoc, length, subst, arith}
use Rattle.std.proofs.Common.{length-drop}
use Rattle.std.proofs.lemmas.List.{take_rest}
use Rattle.std.proofs.lemmas.List.Elements.{All-drop}
use Rattle.linear.specs.CodeSets.{is_pair_next, data_values}
use Rattle.linear.proofs.Laws.CodeSetLaws.{pair_first, byte_first}
use Rattle.linear.proofs.switching.push_values.Goals as goal

-- the first values of those that are left are written; three of the lists are found from the hypotheses, which a turn
-- of the loop has: what it wrote, how it cut what was left, and what held before it
written_more : (before first rest : List ℕ) {now left all : List ℕ} → now ≡ before ++ first → left ≡ first ++ rest
    → before ++ left ≡ all → now ++ rest ≡ all
written_more before first rest written cut whole = ap (λ ys. ys ++ rest) written ∙ append_assoc before first rest
    ∙ ap (λ ys. before ++ ys) (sym cut) ∙ whole

pub push_byte-set-requires-clause-ascii : goal.push_byte-set-requires-clause-ascii
push_byte-set-requires-clause-ascii c =
    subst (All (λ byte. byte < 128)) c.in-Some.ensures.cases.0 c.loop-first.invariant.ascii 0 0 (omega arith)

pub loop-first-preserved-then-is_pair_next : goal.loop-first-preserved-then-is_pair_next
loop-first-preserved-then-is_pair_next c =
    let set = c.loop-first.set in
    let cut = c.in-Some.ensures.cases.0 in
    let p = pair_first set c.in-Some.first.now c.in-Some.after.now
    (ap (is_pair_next set) (sym cut) ∙ sym c.is_pair_next.ensures ∙ c.if-is_pair_next.true) in
    rw (take_rest c.in-Some.after.now 1) (record {
      room = omega (arith, ap length cut, p.within, length-drop 1 c.in-Some.after.now);
      ascii = subst (All (λ byte. byte < 128)) (ap (drop 2) cut)
          (All-drop (λ byte. byte < 128) 2 c.loop-first.rest.now c.loop-first.invariant.ascii);
      whole = written_more _ _ _ c.push_pair.ensures.items (ap (data_values set) cut ∙ p.values)
          c.loop-first.invariant.whole;
    })

pub loop-first-preserved : goal.loop-first-preserved
loop-first-preserved c =
    let set = c.loop-first.set in
    let cut = c.in-Some.ensures.cases.0 in
    let single = byte_first set c.in-Some.first.now c.in-Some.after.now
    (ap (is_pair_next set) (sym cut) ∙ sym c.is_pair_next.ensures ∙ c.if-is_pair_next.false) in
    record {
      room = omega (arith, ap length cut);
      ascii = subst (All (λ byte. byte < 128)) (ap (drop 1) cut)
          (All-drop (λ byte. byte < 128) 1 c.loop-first.rest.now c.loop-first.invariant.ascii);
      whole = ap (λ set. c.push_byte-set.new.values.items ++ data_values set c.in-Some.after.now)
          c.push_byte-set.ensures.set
          ∙ written_more _ _ _ c.push_byte-set.ensures.values.items (ap (data_values set) cut ∙ single)
          c.loop-first.invariant.whole;
    }
