-- The parts of a machine's text, joined.
use Rattle.std.proofs.Common.{ℕ, ◌≡◌, Bool, List, Option, Some, None, refl}
use Rattle.std.specs.Prelude.{codes}
use Rattle.dr_outside.specs.declared.sides.Sides.{Sides}
use Rattle.dr_outside.specs.declared.machine.Placed.{Placed}
use Rattle.dr_outside.specs.declared.machine.Post.{Post}
use Rattle.dr_outside.specs.declared.machine.Post.TheVariants as posts
use Rattle.dr_lab.specs.declared.machine_text.Power.{Power}
use Rattle.dr_lab.specs.declared.machine_text.Power.TheVariants as powers
use Rattle.dr_lab.specs.Fields.{field, either_word, Taken, NoneThere}
use Rattle.dr_lab.specs.MachineText.{IsName, IsFolder, power_word, placed_text, IsPlaced, post_of, post_text, IsPost, machine_text, IsMachine}
use Rattle.dr_lab.proofs.Joins.{Both, both_text, Any, remade, remade_none}
use Rattle.dr_lab.proofs.Optional.{opt_text, IsOpt, head_alone, head_and_tail, tail_none, head_none}

abbrev pub bubble_line : Bool → List ℕ
bubble_line b = field (codes "  bubble ") 10 (either_word (codes "yes") (codes "no") b)

abbrev pub pool_text : List ℕ × Bool → List ℕ
pool_text = both_text (field (codes "  pool ") 10) bubble_line

abbrev pub folder_text : List ℕ × (List ℕ × Bool) → List ℕ
folder_text = both_text (field (codes "  folder ") 10) pool_text

abbrev pub network_text : List ℕ × (List ℕ × (List ℕ × Bool)) → List ℕ
network_text = both_text (field (codes "  network ") 10) folder_text

abbrev pub IsPool : List ℕ × Bool → Type 0
IsPool = Both IsName Any

abbrev pub IsRest : List ℕ × (List ℕ × Bool) → Type 0
IsRest = Both IsFolder IsPool

abbrev placed_of : List ℕ × (List ℕ × (List ℕ × Bool)) → Placed
placed_of p = record { place = record { network = p.0; folder = p.1.0; pool = p.1.1.0 }; bubble = p.1.1.1 }

abbrev parts_of : Placed → List ℕ × (List ℕ × (List ℕ × Bool))
parts_of placed = (placed.place.network, (placed.place.folder, (placed.place.pool, placed.bubble)))

pub placed_made : {bytes rest : List ℕ} {p : List ℕ × (List ℕ × (List ℕ × Bool))} → Taken (Both IsName IsRest) network_text bytes p rest → Taken IsPlaced placed_text bytes (placed_of p) rest
unfolding placed_text
placed_made t = remade IsPlaced placed_text placed_of parts_of (λ a h. (h.0, (h.1.0, h.1.1.0))) (λ c h. (h.0, (h.1.0, (h.1.1, tt)))) (λ c h. refl) (λ a h. refl) t

pub placed_none : {bytes : List ℕ} → NoneThere (Both IsName IsRest) network_text bytes → NoneThere IsPlaced placed_text bytes
unfolding placed_text
placed_none t = remade_none IsPlaced placed_text parts_of (λ c h. (h.0, (h.1.0, (h.1.1, tt)))) (λ c h. refl) t

abbrev pub power_line : List ℕ → Option Power → List ℕ
power_line front power = field front 10 (power_word power)

abbrev parts_of_post : Post → Option (Power × Placed)
parts_of_post posts.Placeholder = None
parts_of_post (posts.Off placed) = Some (powers.Off, placed)
parts_of_post (posts.On placed) = Some (powers.On, placed)
parts_of_post (posts.Ready placed) = Some (powers.Ready, placed)

module _ (front : List ℕ) where
  abbrev Are : Option (Power × Placed) → Type 0
  Are = IsOpt Any IsPlaced (power_line front) placed_text

  abbrev whole : Option (Power × Placed) → List ℕ
  whole = opt_text Any IsPlaced (power_line front) placed_text

  are_parts : (post : Post) → IsPost post → Are (parts_of_post post)
  are_parts posts.Placeholder is = tt
  are_parts (posts.Off placed) is = (tt, is)
  are_parts (posts.On placed) is = (tt, is)
  are_parts (posts.Ready placed) is = (tt, is)

  is_post : (p : Option (Power × Placed)) → Are p → IsPost (post_of p)
  is_post None is = tt
  is_post (Some (powers.Off, placed)) is = is.1
  is_post (Some (powers.On, placed)) is = is.1
  is_post (Some (powers.Ready, placed)) is = is.1

  again : (post : Post) → IsPost post → post_of (parts_of_post post) ≡ post
  again posts.Placeholder is = refl
  again (posts.Off placed) is = refl
  again (posts.On placed) is = refl
  again (posts.Ready placed) is = refl

  same : (p : Option (Power × Placed)) → Are p → post_text front (post_of p) ≡ whole p
  unfolding post_text
  same None is = refl
  same (Some (powers.Off, placed)) is = refl
  same (Some (powers.On, placed)) is = refl
  same (Some (powers.Ready, placed)) is = refl

  same_parts : (post : Post) → IsPost post → post_text front post ≡ whole (parts_of_post post)
  unfolding post_text
  same_parts posts.Placeholder is = refl
  same_parts (posts.Off placed) is = refl
  same_parts (posts.On placed) is = refl
  same_parts (posts.Ready placed) is = refl

  -- a placeholder
  pub place_alone : {bytes rest : List ℕ} → Taken Any (power_line front) bytes None rest → Taken IsPost (post_text front) bytes posts.Placeholder rest
  place_alone t = remade IsPost (post_text front) post_of parts_of_post is_post are_parts again same (head_alone Any IsPlaced (power_line front) placed_text t)

  -- a registered machine
  pub a_machine : {bytes mid rest : List ℕ} {power : Power} {placed : Placed} → Taken Any (power_line front) bytes (Some power) mid → Taken IsPlaced placed_text mid placed rest → Taken IsPost (post_text front) bytes (post_of (Some (power, placed))) rest
  a_machine t u = remade IsPost (post_text front) post_of parts_of_post is_post are_parts again same (head_and_tail Any IsPlaced (power_line front) placed_text t u)

  -- none whose placement isn't there
  pub no_placement : {bytes mid : List ℕ} {power : Power} → Taken Any (power_line front) bytes (Some power) mid → NoneThere IsPlaced placed_text mid → NoneThere IsPost (post_text front) bytes
  no_placement t u = remade_none IsPost (post_text front) parts_of_post are_parts same_parts (tail_none Any IsPlaced (power_line front) placed_text t u)

  -- none where its line isn't there
  pub no_post : {bytes : List ℕ} → NoneThere Any (power_line front) bytes → NoneThere IsPost (post_text front) bytes
  no_post t = remade_none IsPost (post_text front) parts_of_post are_parts same_parts (head_none Any IsPlaced (power_line front) placed_text t)

abbrev sides_of : Post × Post → Sides Post
sides_of p = record { a = p.0; b = p.1 }

abbrev posts_of : Sides Post → Post × Post
posts_of sides = (sides.a, sides.b)

pub machine_made : {bytes rest : List ℕ} {p : Post × Post} → Taken (Both IsPost IsPost) (both_text (post_text (codes "A ")) (post_text (codes "B "))) bytes p rest → Taken IsMachine machine_text bytes (sides_of p) rest
unfolding machine_text
machine_made t = remade IsMachine machine_text sides_of posts_of (λ a h. h) (λ c h. h) (λ c h. refl) (λ a h. refl) t

pub machine_none : {bytes : List ℕ} → NoneThere (Both IsPost IsPost) (both_text (post_text (codes "A ")) (post_text (codes "B "))) bytes → NoneThere IsMachine machine_text bytes
unfolding machine_text
machine_none t = remade_none IsMachine machine_text posts_of (λ c h. h) (λ c h. refl) t
