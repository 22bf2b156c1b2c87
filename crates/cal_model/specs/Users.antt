-- The users and groups of this server: the file that names them (RFC 3744, 2), and who sent a request (RFC 7617).
-- Given: the octets of a users file, and the field Authorization of a request.
pub mod UsersFile
pub mod Credentials
