-- Links read one after another into arrays: what the arrays hold is what `records` has read so far.
-- Assumes nothing.
use Prim.Native.Nat.{ℕ, ◌+◌, ◌-◌, ◌≤◌, ◌<◌}
use mathlib.Core.Path.{◌≡◌, refl, sym, ◌∙◌}
use mathlib.Core.List.{List, [], ◌∷◌, ◌++◌}
use native.Mathlib.Omega.{arith}
use native.Mathlib.Numerals.{add-one}
use lib.ListN.{length, get_or, set, drop, length-set}
use lib.Seq.{get_or-set_same, get_or-set_other, get_or_at}
use lib.Dec.{eqb}
use Rattle.cuts.specs.Sums.{table}
use Rattle.cuts.specs.Network.{Link, no_link}
use Rattle.cuts.specs.Limits.{most_nodes, most_links}
use Rattle.cuts.proofs.SumLaws.{table_congr}
use Rattle.arrays.specs.Links.{links_of, LinkArrays}
use Rattle.arrays.proofs.LinkLaws.{links_of-length}
use Rattle.sheet.specs.Bytes.{Bytes}
use Rattle.sheet.specs.Reading.{accepted, refused, records}
use Rattle.sheet.specs.Sheet.{Format, link_record, next_link}
use Rattle.read_links.specs.LinksRead.{link_of}
use Rattle.read_links.specs.declared.Link as link
use Rattle.sheet.proofs.Acceptance.{GoodLink, good-link}
use Rattle.sheet.proofs.ReadingLaws.{Run, run_more, run-stop, run-done}

-- one link more
links_of-set : (k a b w : ℕ) (fs ss ws : List ℕ) → k < length fs → k < length ss → k < length ws
    → links_of (k + 1) (set fs k a) (set ss k b) (set ws k w) ≡ links_of k fs ss ws ++ record { first = a; second = b; weight = w } ∷ []
unfolding links_of table
links_of-set k a b w fs ss ws p q r =
    rw (
      add-one k,
      get_or-set_same fs k a 0 p,
      get_or-set_same ss k b 0 q,
      get_or-set_same ws k w 0 r,
      table_congr {A = Link} k
          (λ i. record { first = get_or (set fs k a) i 0; second = get_or (set ss k b) i 0; weight = get_or (set ws k w) i 0 })
          (λ i. record { first = get_or fs i 0; second = get_or ss i 0; weight = get_or ws i 0 })
          (λ i c. rw (get_or-set_other fs k i a 0 (λ q. omega arith), get_or-set_other ss k i b 0 (λ q. omega arith), get_or-set_other ws k i w 0 (λ q. omega arith))),
    )

-- after k links, of `count` from the position `from` on, in the format f: `at` is the position behind them, and l the last of them
pub record LinksRun (f : Format) (s : Bytes) (from nodes count : ℕ) (fs ss ws : List ℕ) (at : ℕ) (l : link.Link) (k : ℕ) : Type 0 where
  pub run : Run (next_link f nodes) count k (links_of k fs ss ws) (drop at s) (drop from s)
  pub last : link_of l ≡ get_or (links_of k fs ss ws) (k - 1) no_link
  pub inside : at ≤ length s
  pub few : nodes ≤ most_nodes
  pub firsts_room : length fs ≡ most_links
  pub seconds_room : length ss ≡ most_links
  pub weights_room : length ws ≡ most_links
  pub room : count ≤ most_links

module _ {f : Format} {s : Bytes} {from nodes count : ℕ} {fs ss ws : List ℕ} {at : ℕ} {l : link.Link} {k : ℕ}
    (w : LinksRun f s from nodes count fs ss ws at l k) where
  -- the links read so far
  abbrev got : List Link
  got = links_of k fs ss ws

  -- what is read next is the next link
  next_is : next_link f nodes got (drop at s) ≡ link_record f nodes (eqb k 0) (link_of l) (drop at s)
  next_is = rw (links_of-length k fs ss ws, ← w.last)

  module _ (more : k < count) where
    pub links-stop : (n : ℕ) → refused n ≡ link_record f nodes (eqb k 0) (link_of l) (drop at s) → refused n ≡ records (next_link f nodes) count [] (drop from s)
    links-stop n e = run-stop w.run more (next_is ∙ sym e)

    module _ (next : link.Link) (end : ℕ) (e : accepted (link_of next) (drop end s) ≡ link_record f nodes (eqb k 0) (link_of l) (drop at s)) where
      pub next-good : GoodLink f nodes (link_of next)
      next-good = good-link f nodes got (drop at s) (link_of next) (drop end s) (next_is ∙ sym e)

      pub links-more : end ≤ length s → LinksRun f s from nodes count (set fs k next.first) (set ss k next.second) (set ws k next.weight) end next (k + 1)
      links-more i =
          let r = w.room in
          let held =
          links_of-set k next.first next.second next.weight fs ss ws (omega (arith, w.firsts_room)) (omega (arith, w.seconds_room)) (omega (arith, w.weights_room)) in
          let place : k + 1 - 1 ≡ k = omega arith in
          record {
            run = rw held (run_more w.run more (next_is ∙ sym e));
            last = rw (held, place) (sym (get_or_at got (link_of next) [] no_link k (links_of-length k fs ss ws)));
            inside = i;
            few = w.few;
            firsts_room = length-set fs k next.first ∙ w.firsts_room;
            seconds_room = length-set ss k next.second ∙ w.seconds_room;
            weights_room = length-set ws k next.weight ∙ w.weights_room;
            room = r;
          }

  pub links_done : k ≡ count → accepted (links_of count fs ss ws) (drop at s) ≡ records (next_link f nodes) count [] (drop from s)
  links_done e = rw e at (run-done w.run e)

  pub arrays-of : LinkArrays (fs ∷ ss ∷ []) ws
  arrays-of = record { ends_room = record { both = refl; firsts = w.firsts_room; seconds = w.seconds_room }; weights_room = w.weights_room }
