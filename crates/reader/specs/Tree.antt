-- The first misplaced or unfinished node, found in document order.
use Rattle.std.specs.Prelude.{ℕ, ◌+◌, Bool, true, false, cond, ◌&&◌, List, [], ◌∷◌, drop, Some, None, Ok, Err, Option, Result, ◌==◌, nat_lt, slice_index_or}
use Rattle.rules.specs.Bytes.{same}
use Rattle.rules.specs.Located.{Elements, none, element}
use Rattle.rules.specs.Schema.{Child, child, tag, needs_child}
use Rattle.rules.specs.Values.{under}
use Rattle.rules.specs.declared.schema.Node.{Node}
use Rattle.rules.specs.declared.schema.Node.TheVariants.{Comprobante}
use Rattle.rules.specs.declared.grounds.Fault.{Fault}
use Rattle.rules.specs.declared.grounds.Fault.TheVariants.{Misplaced, Unfinished}
use Rattle.theory.proofs.Compose.{or_else}
use Rattle.reader.specs.declared.nodes.Progress.{Progress}

-- n children of the row i, and none of a later row
abbrev pub progress : ℕ → ℕ → Progress
progress i n = record { row = i; count = n }

-- how far a child of this name brings the children, where n of the row i stand last and cs are the rows from i on
abbrev pub step : List Child → ℕ → ℕ → List ℕ → Option Progress
step [] i n name = None
step (c ∷ cs) i n name =
    cond (same (tag c.node) name) (cond (nat_lt n c.most) (Some (progress i (n + 1))) None)
    (cond (nat_lt n c.least) None (step cs (i + 1) 0 name))

-- each row has its least count, where n of the first stand
abbrev pub enough : List Child → ℕ → Bool
enough [] n = true
enough (c ∷ cs) n = cond (nat_lt n c.least) false (enough cs 0)

-- some child must stand under p, whichever it is
abbrev pub wants_child : Option Node → Bool
wants_child None = false
wants_child (Some k) = needs_child k

-- the children under p may end after n of the row i
abbrev pub finished : Option Node → ℕ → ℕ → Bool
finished p i n = cond (wants_child p && n == 0) false (enough (drop i (under p)) n)

-- the node of the row i under p
abbrev pub node_at : Option Node → ℕ → Node
node_at p i = (slice_index_or (under p) i (child Comprobante 0 0)).node

-- a fault where no row takes a child, else what is found further on
abbrev pub follow : Option Progress → Fault → (Progress → Option Fault) → Option Fault
follow None f go = Some f
follow (Some s) f go = go s

-- the first fault of elements under p, after n children of the row i, that end at a place
abbrev pub tree_first : Option Node → ℕ → ℕ → ℕ → Elements → Option Fault
tree_first p i n ends none = cond (finished p i n) None (Some (Unfinished ends))
tree_first p i n ends (element name at gs inside e rest) =
    follow (step (drop i (under p)) i n name) (Misplaced at)
    (λ s. or_else (tree_first (Some (node_at p s.row)) 0 0 e inside) (tree_first p s.row s.count ends rest))

-- a fault, or the place where the elements end
abbrev pub answer : Option Fault → ℕ → Result ℕ Fault
answer None e = Ok e
answer (Some f) e = Err f
