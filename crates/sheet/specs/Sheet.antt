-- The serialised network: from its bytes to the network or the number of the first refusal, 3 to 16 (document 01, "The link sheet",
-- "Why a sheet is turned down"). Assumes nothing.
--   Format                       the widths of the fields behind a map byte, one for each bit of the map; the largest weight; the bytes
--                                that the report area has for the weight of a side and for the floor, each; and the rules of answers
--   ruled rules f                the format f with other rules
--   base                         document 01's format, of units already sold
--   wide                         the format of request F-2
--   tolerant                     the format of request F-3
--   trunked                      the format of request F-9
--   small_first                  the format of request F-6
--   current                      the format in force
--   header_length                the bytes of the header
--   Counts                       how many nodes, links and trees there are
--   counts_in sheet              the header's three counts
--   count_checks c               refusals 4 to 6
--   header_record sheet          the counts, or the refusal: 3, or one of these
--   map_byte bs                  the map byte of the link record at the front of bs
--   field_start f m i            where the field of bit i starts behind the map byte m
--   record_length f bs           the length of that record
--   field f i before bs          the field of bit i in that record; `before` where its bit is not set
--   link_in f before bs          the link of that record, where the link before it is `before`
--   wrong_map f start m          what refusal 8 says of a map byte m; `start`: it is link 0's
--   shape_checks f start bs      refusals 7 to 9 of that record; `start`: it is link 0
--   value_checks f n l           refusals 10 and 11 of the link l, for n nodes
--   link_record f n start b bs   that link, where b is the link before it, or the refusal
--   next_link f n got bs         the same behind the links `got`
--   map_length links             the bytes of a tree's link map
--   tree_length links            the bytes of a tree record
--   tree_in net bs               the tree of the tree record at the front of bs
--   map_checks n links map       refusals 13 and 14 of a tree's link map, for n nodes
--   tree_checks net bs           refusals 12 to 15
--   tree_record net bs           that tree, or the refusal
--   network n ls ts              the network of n nodes with the links ls and the trees ts
--   nothing_behind net bs        the network, unless bytes bs are left: refusal 16
--   trees_behind c links bs      the network of these links and the tree records bs, of which the header counts c, or the refusal
--   decode_body f c bs           the network of the records bs behind a header with the counts c, or the refusal
--   decode f sheet               the network of the sheet, or the refusal
--   record_most f                the length of a longest link record: all its fields are there
--   sheet_most f links trees     the length of a longest sheet with so many links and trees
--   Accepted f net               what holds of every network that a sheet gives
use Rattle.std.specs.Prelude.{ℕ, ◌+◌, ◌-◌, ◌*◌, ◌/◌, ◌%◌, ◌^◌, ◌≤◌, ◌<◌, ◌≡◌, Bool, ◌&&◌, ◌||◌, not, cond, List, [], ◌∷◌, ◌++◌, length, get_or, drop, eqb, ltb, leb}
use Rattle.cuts.specs.Sums.{sum_to, only, count_to, any_to, table}
use Rattle.cuts.specs.Network.{Link, Tree, Network, no_link, link_at, link_count, tree_at}
use Rattle.cuts.specs.Tree.{Sound, spans}
use Rattle.cuts.specs.Candidate.{alike, fewer_nodes}
use Rattle.cuts.specs.Limits.{most_nodes, most_links, most_trees}
use Rattle.cuts.specs.Bound.{all_or_none, longest_run}
use Rattle.cuts.specs.Answer.{Rules}
use Rattle.sheet.specs.Bytes.{Bytes, number, bit, map_bit}
use Rattle.sheet.specs.Reading.{Check, check, first_failing, Reading, accepted, unless, and_then, records}

pub record Format : Type 0 where
  pub widths : List ℕ
  pub weight_limit : ℕ
  pub sum_width : ℕ
  pub rules : Rules

abbrev pub ruled : Rules → Format → Format
ruled rules f = record { widths = f.widths; weight_limit = f.weight_limit; sum_width = f.sum_width; rules = rules }

abbrev pub base : Format
base = record { widths = 2 ∷ 2 ∷ 4 ∷ []; weight_limit = 1_000_000; sum_width = 4; rules = record { counting = all_or_none; key = alike } }

-- "Every 4-byte weight is allowed. Weights of sides and the floor become 8-byte numbers"
abbrev pub wide : Format
wide = record { widths = base.widths; weight_limit = 4_294_967_295; sum_width = 8; rules = base.rules }

-- "From now on the trees that count are the longest run from tree 0 on that loads no link past its weight"
abbrev pub tolerant : Format
tolerant = ruled (record { counting = longest_run; key = alike }) wide

-- "Bit 3 of a link's map adds a 2-byte trunk number after the weight"
abbrev pub trunked : Format
trunked = record { widths = 2 ∷ 2 ∷ 4 ∷ 2 ∷ []; weight_limit = tolerant.weight_limit; sum_width = tolerant.sum_width; rules = tolerant.rules }

-- "so the order is weight, fewer nodes in the side, tree, first link, single before pair, second link"
abbrev pub small_first : Format
small_first = ruled (record { counting = trunked.rules.counting; key = fewer_nodes }) trunked

abbrev pub current : Format
current = small_first

-- ---- header

abbrev pub header_length : ℕ
header_length = 5

pub record Counts : Type 0 where
  pub nodes : ℕ
  pub links : ℕ
  pub trees : ℕ

unfoldable pub counts_in : Bytes → Counts
unfolding number
counts_in sheet = record { nodes = number 2 sheet; links = number 2 (drop 2 sheet); trees = number 1 (drop 4 sheet) }

unfoldable pub count_checks : Counts → List Check
count_checks c =
    check 4 (ltb c.nodes 2 || ltb most_nodes c.nodes)
    ∷ check 5 (ltb c.links (c.nodes - 1) || ltb most_links c.links)
    ∷ check 6 (eqb c.trees 0 || ltb most_trees c.trees)
    ∷ []

unfoldable pub header_record : Bytes → Reading Counts
unfolding first_failing counts_in count_checks
header_record sheet =
    unless (first_failing (check 3 (ltb (length sheet) header_length) ∷ count_checks (counts_in sheet))) (accepted (counts_in sheet) (drop header_length sheet))

-- ---- links

abbrev pub map_byte : Bytes → ℕ
map_byte bs = get_or bs 0 0

unfoldable pub field_start : Format → ℕ → ℕ → ℕ
unfolding sum_to
field_start f m i = sum_to i (λ j. only (bit m j) (get_or f.widths j 0))

abbrev pub record_length : Format → Bytes → ℕ
record_length f bs = 1 + field_start f (map_byte bs) (length f.widths)

-- an absent field has the value of the link before it
unfoldable pub field : Format → ℕ → ℕ → Bytes → ℕ
unfolding number field_start
field f i before bs =
    cond (bit (map_byte bs) i) (number (get_or f.widths i 0) (drop (1 + field_start f (map_byte bs) i) bs)) before

unfoldable pub link_in : Format → Link → Bytes → Link
unfolding field
link_in f before bs =
    record { first = field f 0 before.first bs; second = field f 1 before.second bs; weight = field f 2 before.weight bs }

-- a bit that no field belongs to stands; link 0 has both ends and a weight: the three lowest bits stand
abbrev pub wrong_map : Format → Bool → ℕ → Bool
wrong_map f start m = leb (2 ^ length f.widths) m || (start && not (eqb (m % 8) 7))

unfoldable pub shape_checks : Format → Bool → Bytes → List Check
unfolding field_start
shape_checks f start bs =
    check 7 (eqb (length bs) 0)
    ∷ check 8 (wrong_map f start (map_byte bs))
    ∷ check 9 (ltb (length bs) (record_length f bs))
    ∷ []

unfoldable pub value_checks : Format → ℕ → Link → List Check
value_checks f nodes l =
    check 10 (leb nodes l.first || leb nodes l.second || eqb l.first l.second)
    ∷ check 11 (ltb f.weight_limit l.weight)
    ∷ []

unfoldable pub link_record : Format → ℕ → Bool → Link → Bytes → Reading Link
unfolding first_failing field_start link_in shape_checks value_checks
link_record f nodes start before bs =
    let l : Link = link_in f before bs in
    unless (first_failing (shape_checks f start bs ++ value_checks f nodes l)) (accepted l (drop (record_length f bs) bs))

abbrev pub next_link : Format → ℕ → List Link → Bytes → Reading Link
next_link f nodes got bs = link_record f nodes (eqb (length got) 0) (get_or got (length got - 1) no_link) bs

-- ---- trees

abbrev pub map_length : ℕ → ℕ
map_length links = (links + 7) / 8

abbrev pub tree_length : ℕ → ℕ
tree_length links = 4 + map_length links

unfoldable pub tree_in : Network → Bytes → Tree
unfolding number table
tree_in net bs = record { share = number 4 bs; members = table (link_count net) (map_bit (drop 4 bs)) }

unfoldable pub map_checks : ℕ → ℕ → Bytes → List Check
unfolding any_to sum_to
map_checks nodes links map =
    let size : ℕ = map_length links in
    check 13 (any_to (8 * size) (λ k. leb links k && map_bit map k))
    ∷ check 14 (not (eqb (count_to (8 * size) (map_bit map)) (nodes - 1)))
    ∷ []

unfoldable pub tree_checks : Network → Bytes → List Check
unfolding map_checks tree_in spans
tree_checks net bs =
    check 12 (ltb (length bs) (tree_length (link_count net)))
    ∷ map_checks net.nodes (link_count net) (drop 4 bs)
    ++ check 15 (not (spans net (tree_in net bs)))
    ∷ []

unfoldable pub tree_record : Network → Bytes → Reading Tree
unfolding first_failing tree_checks tree_in
tree_record net bs =
    unless (first_failing (tree_checks net bs)) (accepted (tree_in net bs) (drop (tree_length (link_count net)) bs))

-- ---- the whole sheet

abbrev pub network : ℕ → List Link → List Tree → Network
network nodes links trees = record { nodes = nodes; links = links; trees = trees }

abbrev pub nothing_behind : Network → Bytes → Reading Network
nothing_behind net bs = unless (first_failing (check 16 (ltb 0 (length bs)) ∷ [])) (accepted net bs)

abbrev pub trees_behind : Counts → List Link → Bytes → Reading Network
trees_behind c links bs =
    and_then (records (λ _. tree_record (network c.nodes links [])) c.trees [] bs) (λ trees. nothing_behind (network c.nodes links trees))

unfoldable pub decode_body : Format → Counts → Bytes → Reading Network
unfolding first_failing records link_record tree_record
decode_body f c bs = and_then (records (next_link f c.nodes) c.links [] bs) (trees_behind c)

-- document 01 calls the bytes the link sheet, and a refused sheet turned down
unfoldable pub decode : Format → Bytes → Reading Network
unfolding header_record decode_body
decode f sheet = and_then (header_record sheet) (decode_body f)

-- ---- how long a sheet can be

unfoldable pub record_most : Format → ℕ
unfolding sum_to
record_most f = 1 + sum_to (length f.widths) (λ j. get_or f.widths j 0)

unfoldable pub sheet_most : Format → ℕ → ℕ → ℕ
unfolding record_most
sheet_most f links trees = header_length + links * record_most f + trees * tree_length links

-- ---- what an accepted sheet gives

pub record Accepted (f : Format) (net : Network) : Type 0 where
  pub sound : Sound net
  pub nodes_most : net.nodes ≤ most_nodes
  pub links_most : link_count net ≤ most_links
  pub trees_most : length net.trees ≤ most_trees
  pub ends_differ : (k : ℕ) → k < link_count net → (link_at net k).first ≡ (link_at net k).second → ⊥
  pub weights_most : (k : ℕ) → k < link_count net → (link_at net k).weight ≤ f.weight_limit
  pub members_sized : (i : ℕ) → i < length net.trees → length (tree_at net i).members ≡ link_count net
