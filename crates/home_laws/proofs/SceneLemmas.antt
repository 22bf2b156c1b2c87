-- What a request sees of its path is seen of one home.
use Rattle.std.proofs.Common.{◌≡◌, ℕ, Option, Some, sym, ap, ◌∙◌, refl}
use Rattle.std.specs.Prelude.{option_map, option_and_then}
use Rattle.cal_base.specs.Lists.NameMap.{Named}
use Rattle.cal_model.specs.declared.path.Path.{Path}
use Rattle.cal_model.specs.Sight.Scenes.{Scene, user_in, calendar_in, object_in, at_both, octets_seen, scene_at, visible_home}
use Rattle.cal_model.specs.Sight.Views.{Sight, Look, home_by, view_by}
use Rattle.cal_model.specs.State.ServerState.{Directory, Home, ServerState, user_number, home_at}
use Rattle.cal_model.proofs.Sight.SceneLaws.{home_in-view}

-- a scene, by its user and what is seen of the home
scene_of : Directory → ℕ → Path → Option ℕ → Option (Named Sight) → Scene
scene_of directory who path user home =
    let calendar = at_both home (calendar_in path) in
    record { directory = directory; who = who; path = path; user = user; home = home; calendar = calendar; object = at_both (octets_seen calendar) (object_in path) }

-- a home that is the same is seen as the same
visible_home-same : (look : Look) (directory : Directory) (a b : ServerState) (who home : ℕ) → home_at a home ≡ home_at b home
    → visible_home (view_by look directory a who) who home ≡ visible_home (view_by look directory b who) who home
visible_home-same look directory a b who home same =
    let seen = home_in-view look directory a who home
    ∙ ap (option_map (λ (h : Home). home_by look directory who (home, h))) same
    ∙ sym (home_in-view look directory b who home) in
    ap (option_and_then _) seen

-- so is what stands at a path in it
pub scene_at-same : (look : Look) (directory : Directory) (a b : ServerState) (who home : ℕ) (path : Path)
    → option_and_then (user_number directory) (user_in path) ≡ Some home → home_at a home ≡ home_at b home
    → scene_at directory (view_by look directory a who) who path ≡ scene_at directory (view_by look directory b who) who path
unfolding scene_at scene_of
scene_at-same look directory a b who home path about same =
    let user = option_and_then (user_number directory) (user_in path) in
    let seen : option_and_then (visible_home (view_by look directory a who) who) user ≡ option_and_then (visible_home (view_by look directory b who) who) user =
    ap (option_and_then (visible_home (view_by look directory a who) who)) about
    ∙ visible_home-same look directory a b who home same
    ∙ ap (option_and_then (visible_home (view_by look directory b who) who)) (sym about) in
    ap (scene_of directory who path user) seen

-- a scene has the path's user
pub scene_at-user : (look : Look) (directory : Directory) (state : ServerState) (who : ℕ) (path : Path)
    → (scene_at directory (view_by look directory state who) who path).user ≡ option_and_then (user_number directory) (user_in path)
unfolding scene_at
scene_at-user look directory state who path = refl
