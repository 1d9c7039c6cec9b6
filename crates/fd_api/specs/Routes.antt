-- The resources, their paths, and the one method of each.
use Rattle.std.specs.Prelude.{ℕ, Bool, ◌&&◌, ◌==◌, List, [], Option, Some, None, codes, bytes_eq, if◌then◌else◌}
use Rattle.std.specs.List.{before_first, after_first}
use Rattle.fd_http.specs.declared.replies.Method.{Method}
use Rattle.fd_http.specs.declared.replies.Method.TheVariants.{Get, Post}
use Rattle.fd_kinds.specs.Names.{is_label_name}
use Rattle.fd_api.specs.declared.route.Route.{Route}
use Rattle.fd_api.specs.declared.route.Route.TheVariants as route
use Rattle.fd_api.specs.declared.route.Listing.TheVariants as listing
use Rattle.fd_api.specs.declared.route.Summing.TheVariants as summing

-- what stands before the first `/`, or all, and what stands after it
abbrev pub segment : List ℕ → List ℕ
segment path = before_first (λ b. b == 47) path

abbrev pub segments_behind : List ℕ → List ℕ
segments_behind path = after_first (λ b. b == 47) path

-- the segments are `labels`, the name of a label, and `values`
abbrev pub names_label : List ℕ → Bool
names_label segments =
    bytes_eq (segment segments) (codes "labels")
    && (is_label_name (segment (segments_behind segments)) && bytes_eq (segments_behind (segments_behind segments)) (codes "values"))

-- the values of the label that the segments name
abbrev pub values_of : List ℕ → Option Route
values_of segments = if names_label segments then Some (route.List (listing.Values (segment (segments_behind segments)))) else None

-- the resources below `/profiles/`
abbrev pub profiles_route : List ℕ → Option Route
profiles_route segments =
    if bytes_eq segments (codes "writeraw") then Some route.Write
    else if bytes_eq segments (codes "types") then Some route.Types
    else if bytes_eq segments (codes "labels") then Some (route.List listing.LabelNames)
    else if bytes_eq segments (codes "series") then Some (route.List listing.Series)
    else if bytes_eq segments (codes "query_range") then Some (route.Sum summing.Range)
    else if bytes_eq segments (codes "query") then Some (route.Sum summing.Merge)
    else values_of segments

-- a path begins with `/`
abbrev pub route_of : List ℕ → Option Route
route_of path =
    if bytes_eq path (codes "/store/status") then Some route.Status
    else if bytes_eq (segment path) [] && bytes_eq (segment (segments_behind path)) (codes "profiles") then profiles_route (segments_behind (segments_behind path))
    else None

abbrev pub method_of : Route → Method
method_of route.Write = Post
method_of route.Types = Get
method_of (route.List listing) = Get
method_of (route.Sum summing) = Get
method_of route.Status = Get

abbrev pub method_name : Method → List ℕ
method_name Get = codes "GET"
method_name Post = codes "POST"
