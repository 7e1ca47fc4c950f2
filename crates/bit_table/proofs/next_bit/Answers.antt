-- `bit_table::next_bit` meets its contract: none of the bits passed is set, be it that the rest of a word is 0, or that whole words are.
-- Assumes nothing.
use Rattle.std.proofs.Common.{◌≡◌, ℕ, ◌+◌, ◌*◌, ◌/◌, ◌%◌, ◌^◌, ◌<◌, false, List, arith}
use native.Mathlib.Decide.{dec_lt}
use Rattle.arrays.specs.Lists.{entry}
use Rattle.bit_table.specs.Bits.{word_bits, bit_of, WordsClear, BitsClear}
use Rattle.bit_table.proofs.BitLaws.{none_ahead, bit_of-none, first-inside, first-ahead, none-before_first}
use Rattle.bit_table.proofs.next_bit.Goals as goal

-- none is set from a on and before c, where none is before b, and none from b on
joined : (words : List ℕ) (a b c : ℕ) → BitsClear words a b → BitsClear words b c → BitsClear words a c
joined words a b c f g k l m = go (dec_lt k b)
  where
    go : Dec (k < b) → bit_of words k ≡ false
    go (yes d) = f k l d
    go (no d) = g k (omega arith) m

-- no bit is set from q on up to the word w, where the rest of q's word is 0, and the words behind it are
none-up_to : (words : List ℕ) (q w : ℕ) → entry words (q / word_bits) / 2 ^ (q % word_bits) ≡ 0 → WordsClear words (q / word_bits + 1) w
    → BitsClear words q (word_bits * w)
none-up_to words q w e h k l b = go (dec_lt (k / word_bits) (q / word_bits + 1))
  where
    go : Dec (k / word_bits < q / word_bits + 1) → bit_of words k ≡ false
    go (yes d) = none_ahead words q e k l (omega arith)
    go (no d) = bit_of-none words k (h (k / word_bits) (omega arith) (omega arith))

pub overflow_add-found : goal.overflow_add-found
overflow_add-found c =
    let q = c.loop-q.q in
    let small : entry c.args.words.now (q / word_bits) < 2 ^ word_bits = omega (arith, c.type_inv.words (q / word_bits)) in
    omega (arith, first-inside c.args.words.now q small c.if-left-ne0.true)

pub returns-then-found-end : goal.returns-then-found-end
returns-then-found-end c =
    let words = c.args.words.now in
    let q = c.loop-q.q in
    let small : entry words (q / word_bits) < 2 ^ word_bits = omega (arith, c.type_inv.words (q / word_bits)) in
    record {
      behind = omega arith;
      inside = omega arith;
      none = joined words c.args.from q _ c.loop-q.invariant.2 (none-before_first words q small c.if-left-ne0.true);
      is_set = first-ahead words q small c.if-left-ne0.true;
    }

pub returns-else-found-end : goal.returns-else-found-end
returns-else-found-end c =
    let words = c.args.words.now in
    let q = c.loop-q.q in
    let small : entry words (q / word_bits) < 2 ^ word_bits = omega (arith, c.type_inv.words (q / word_bits)) in
    joined words c.args.from q _ c.loop-q.invariant.2 (λ k b d. none-before_first words q small c.if-left-ne0.true k b (omega arith))

pub loop-q-preserved : goal.loop-q-preserved
loop-q-preserved c =
    let words = c.args.words.now in
    let q = c.loop-q.q in
    let n = c.in-Some.ensures in (
      omega (arith, n.behind),
      omega (arith, n.inside),
      joined words c.args.from q _ c.loop-q.invariant.2 (none-up_to words q _ c.if-left-ne0.false n.none),
    )

pub returns-in-None : goal.returns-in-None
returns-in-None c =
    let words = c.args.words.now in
    let q = c.loop-q.q in
    let none = none-up_to words q _ c.if-left-ne0.false c.in-None.ensures in
    joined words c.args.from q _ c.loop-q.invariant.2 (λ k b d. none k b (omega arith))
